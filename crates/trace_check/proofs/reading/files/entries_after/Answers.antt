use Rattle.std.proofs.Common.{◌≡◌, ◌++◌, ◌∷◌, [], ◌∙◌, ap, sym, refl, inr, Ok, true, false, arith, rules}
use Rattle.stale_model.specs.Texts.{comma}
use Rattle.cert_text.specs.Words.{is_empty}
use Rattle.trace_check.specs.declared.reading.TraceFault.TheVariants as fault
use Rattle.trace_check.specs.Lines.{split_at, entry_of}
use Rattle.trace_check.specs.Reading.{replica_of, read_entry}
use Rattle.trace_check.proofs.LineSteps.{last_push, behind_none, next_line, fault_line, ends_well, ends_badly}
use Rattle.trace_check.proofs.reading.files.entries_after.Goals as goal

pub loop-line-init : goal.loop-line-init
loop-line-init c = record {
  reads = rw c.new-entries.ensures.items (behind_none _);
  least = rw c.new-entries.ensures.items refl;
  counts = omega arith;
}

pub returns-in_default-entry_of : goal.returns-in_default-entry_of
returns-in_default-entry_of c = inr (fault_line fault.Journal (read_entry c.args.settings.now) c.loop-line.number c.loop-line.entries.items c.loop-line.rest.now _ c.in-Some.after.now _ c.loop-line.invariant.reads c.in-Some.ensures.some (sym (c.in_default-entry_of.ensures ∙ ap (λ n. entry_of c.args.settings.now n (split_at comma c.in-Some.line.now)) c.loop-line.invariant.least)))

pub loop-line-preserved : goal.loop-line-preserved
loop-line-preserved c =
    let more : c.push.new.self.items ≡ c.loop-line.entries.items ++ c.in-Some-entry_of.entry ∷ [] = search rules in
    record {
      reads = rw more (next_line fault.Journal (read_entry c.args.settings.now) c.loop-line.number c.loop-line.entries.items c.in-Some-entry_of.entry c.loop-line.rest.now _ c.in-Some.after.now _ c.loop-line.invariant.reads c.in-Some.ensures.some (sym (c.in-Some-entry_of.ensures ∙ ap (λ n. entry_of c.args.settings.now n (split_at comma c.in-Some.line.now)) c.loop-line.invariant.least)));
      least = rw more (ap replica_of (sym (last_push c.loop-line.entries.items c.in-Some-entry_of.entry)));
      counts = omega (arith, c.loop-line.invariant.counts, c.in-Some.ensures.shorter);
    }

pub returns-then-is_empty : goal.returns-then-is_empty
returns-then-is_empty c =
    let none : is_empty c.loop-line.rest.now ≡ true = search rules in
    inr (ap Ok c.from_vec.ensures ∙ ends_well fault.Journal (read_entry c.args.settings.now) c.loop-line.number c.loop-line.entries.items c.loop-line.rest.now _ c.loop-line.invariant.reads c.in_default.ensures.none none)

pub returns-else-is_empty : goal.returns-else-is_empty
returns-else-is_empty c =
    let some : is_empty c.loop-line.rest.now ≡ false = search rules in
    inr (ends_badly fault.Journal (read_entry c.args.settings.now) c.loop-line.number c.loop-line.entries.items c.loop-line.rest.now _ c.loop-line.invariant.reads c.in_default.ensures.none some)
