use Rattle.std.proofs.Common.{List, map, refl, sym, subst, slice_index_or}
use Rattle.std.specs.Prelude.{All}
use Rattle.std.proofs.lemmas.List.Elements.{All-contains, Contains-get_or}
use Rattle.stale_model.specs.declared.store.Took.{Took}
use Rattle.stale_model.specs.Orders.{IsWithoutRepeats}
use Rattle.stale_model.specs.Calls.{taken_by}
use Rattle.stale_model.specs.RecordedRuns.{IsReplyTo}
use Rattle.trace_check.proofs.judging.taken.is_taken.Goals as goal

pub returns-then-not-has_quorum : goal.returns-then-not-has_quorum
returns-then-not-has_quorum c = λ journals by_ticket once. ((λ no. absurd (cc no)), (λ t. c.if-not-has_quorum.ensures.exact.1 (t.count, t.many)))

pub returns-then-not-are_replies : goal.returns-then-not-are_replies
returns-then-not-are_replies c = λ journals by_ticket once.
    let e = c.args.call.now in (
      (λ no. absurd (cc no)),
      (λ t.
          (c.if-not-are_replies.ensures journals by_ticket once).1
          (subst (λ (ts : List Took). All (IsReplyTo journals e) ts) (sym c.taken_by-taken.ensures.taken)
          (λ k d inside. t.each (slice_index_or (taken_by e) k d) (Contains-get_or (taken_by e) k d inside)))),
    )

pub returns-then-not-are_apart : goal.returns-then-not-are_apart
returns-then-not-are_apart c = λ journals by_ticket once. (
  (λ no. absurd (cc no)),
  (λ t. c.if-not-are_apart.ensures.1 (subst (λ (ts : List Took). IsWithoutRepeats (map (λ x. x.replica) ts)) (sym c.taken_by-taken.ensures.taken) t.apart)),
)

pub returns : goal.returns
returns c = λ journals by_ticket once.
    let e = c.args.call.now in
    let all = subst (λ (ts : List Took). All (IsReplyTo journals e) ts) c.taken_by-taken.ensures.taken ((c.if-not-are_replies.ensures journals by_ticket once).0 refl) in
    let counted = c.if-not-has_quorum.ensures.exact.0 refl in (
      (λ yes. record {
        count = counted.0;
        many = counted.1;
        each = λ t there. All-contains (IsReplyTo journals e) (taken_by e) t all there;
        apart = subst (λ (ts : List Took). IsWithoutRepeats (map (λ x. x.replica) ts)) c.taken_by-taken.ensures.taken (c.if-not-are_apart.ensures.0 refl);
        others = c.has_no_others.ensures.0 yes;
      }),
      (λ t. c.has_no_others.ensures.1 t.others),
    )
