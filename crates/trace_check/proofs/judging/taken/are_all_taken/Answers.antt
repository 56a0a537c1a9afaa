use Rattle.std.proofs.Common.{◌≡◌, ◌<◌, List, length, take, refl, subst, arith}
use Rattle.std.specs.Prelude.{All}
use Rattle.std.proofs.lemmas.List.{take_all}
use Rattle.std.proofs.lemmas.List.Elements.{All-more}
use Rattle.stale_model.specs.declared.store.Entry.{Entry}
use Rattle.stale_model.specs.RecordedRuns.{AreTaken}
use Rattle.trace_check.proofs.judging.taken.are_all_taken.Goals as goal

pub returns-then-not-is_taken : goal.returns-then-not-is_taken
returns-then-not-is_taken c = λ journals by_ticket once.
    let less : c.loop-call.call-index < length c.args.entries.now = omega arith in
    ((λ no. absurd (cc no)), (λ all. (c.if-not-is_taken.ensures journals by_ticket once).1 (all c.loop-call.call-index _ less)))

pub loop-call-preserved : goal.loop-call-preserved
loop-call-preserved c = λ journals by_ticket once.
    let less : c.loop-call.call-index < length c.args.entries.now = omega arith in
    All-more (AreTaken c.args.settings.now journals) c.args.entries.now c.loop-call.call-index _ less (c.loop-call.invariant journals by_ticket once)
    ((c.if-not-is_taken.ensures journals by_ticket once).0 refl)

pub returns : goal.returns
returns c = λ journals by_ticket once.
    let es = c.args.entries.now in
    let whole : take c.loop-call.call-index es ≡ es = take_all c.loop-call.call-index es (omega arith) in
    ((λ yes. subst (λ (l : List Entry). All (AreTaken c.args.settings.now journals) l) whole (c.loop-call.invariant journals by_ticket once)), (λ all. refl))
