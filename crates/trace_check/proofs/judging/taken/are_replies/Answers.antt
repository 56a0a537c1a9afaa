use Rattle.std.proofs.Common.{◌≡◌, ◌<◌, List, length, take, refl, subst, arith}
use Rattle.std.specs.Prelude.{All}
use Rattle.std.proofs.lemmas.List.{take_all}
use Rattle.std.proofs.lemmas.List.Elements.{All-more}
use Rattle.stale_model.specs.declared.store.Took.{Took}
use Rattle.stale_model.specs.RecordedRuns.{IsReplyTo}
use Rattle.stale_model.specs.Calls.{no_took}
use Rattle.trace_check.proofs.judging.taken.are_replies.Goals as goal

pub returns-then-not-is_reply_to : goal.returns-then-not-is_reply_to
returns-then-not-is_reply_to c = λ journals by_ticket once.
    let less : c.loop-took.took-index < length c.args.taken.now = omega arith in
    ((λ no. absurd (cc no)), (λ all. (c.if-not-is_reply_to.ensures journals by_ticket once).1 (all c.loop-took.took-index no_took less)))

pub loop-took-preserved : goal.loop-took-preserved
loop-took-preserved c = λ journals by_ticket once.
    let less : c.loop-took.took-index < length c.args.taken.now = omega arith in
    All-more (IsReplyTo journals c.args.call.now) c.args.taken.now c.loop-took.took-index no_took less (c.loop-took.invariant journals by_ticket once)
    ((c.if-not-is_reply_to.ensures journals by_ticket once).0 refl)

pub returns : goal.returns
returns c = λ journals by_ticket once.
    let ts = c.args.taken.now in
    let whole : take c.loop-took.took-index ts ≡ ts = take_all c.loop-took.took-index ts (omega arith) in
    ((λ yes. subst (λ (l : List Took). All (IsReplyTo journals c.args.call.now) l) whole (c.loop-took.invariant journals by_ticket once)), (λ all. refl))
