use Rattle.std.proofs.Common.{◌≡◌, ◌++◌, ◌∷◌, [], ◌∙◌, ap, sym, inr, Ok, true, false, arith, rules}
use Rattle.cert_text.specs.Words.{is_empty}
use Rattle.trace_check.specs.declared.reading.TraceFault.TheVariants as fault
use Rattle.trace_check.specs.Reading.{read_call}
use Rattle.trace_check.proofs.LineSteps.{behind_none, next_line, fault_line, ends_well, ends_badly}
use Rattle.trace_check.proofs.reading.files.calls_after.Goals as goal

pub loop-line-init : goal.loop-line-init
loop-line-init c = record {
  reads = rw c.new-calls.ensures.items (behind_none _);
  counts = omega arith;
}

pub returns-in_default-call_of : goal.returns-in_default-call_of
returns-in_default-call_of c = inr (fault_line fault.History (read_call c.args.settings.now) c.loop-line.number c.loop-line.calls.items c.loop-line.rest.now _ c.in-Some.after.now _ c.loop-line.invariant.reads c.in-Some.ensures.some (sym c.in_default-call_of.ensures))

pub loop-line-preserved : goal.loop-line-preserved
loop-line-preserved c =
    let more : c.push.new.self.items ≡ c.loop-line.calls.items ++ c.in-Some-call_of.call ∷ [] = search rules in
    record {
      reads = rw more (next_line fault.History (read_call c.args.settings.now) c.loop-line.number c.loop-line.calls.items c.in-Some-call_of.call c.loop-line.rest.now _ c.in-Some.after.now _ c.loop-line.invariant.reads c.in-Some.ensures.some (sym c.in-Some-call_of.ensures));
      counts = omega (arith, c.loop-line.invariant.counts, c.in-Some.ensures.shorter);
    }

pub returns-then-is_empty : goal.returns-then-is_empty
returns-then-is_empty c =
    let none : is_empty c.loop-line.rest.now ≡ true = search rules in
    inr (ap Ok c.from_vec.ensures ∙ ends_well fault.History (read_call c.args.settings.now) c.loop-line.number c.loop-line.calls.items c.loop-line.rest.now _ c.loop-line.invariant.reads c.in_default.ensures.none none)

pub returns-else-is_empty : goal.returns-else-is_empty
returns-else-is_empty c =
    let some : is_empty c.loop-line.rest.now ≡ false = search rules in
    inr (ends_badly fault.History (read_call c.args.settings.now) c.loop-line.number c.loop-line.calls.items c.loop-line.rest.now _ c.loop-line.invariant.reads c.in_default.ensures.none some)
