use Rattle.std.proofs.Common.{◌≡◌, ◌<◌, List, length, eqb, map, take, refl, sym, subst, slice_index_or, arith}
use Rattle.std.specs.List.{IsDistinct}
use Rattle.std.proofs.lemmas.List.{take_all, get_or_default}
use Rattle.stale_model.specs.declared.store.Took.{Took}
use Rattle.stale_model.specs.Calls.{no_took}
use Rattle.stale_model.proofs.Sorted.{no_repeats_from_distinct}
use Rattle.trace_check.proofs.Taking.{apart_more, not_apart}
use Rattle.trace_check.proofs.judging.taken.are_apart.Goals as goal

pub loop-place-init : goal.loop-place-init
unfolding IsDistinct
loop-place-init c = tt

pub returns-then-has_reply : goal.returns-then-has_reply
returns-then-has_reply c =
    let ts = c.args.taken.now in
    let n = c.loop-place.place in
    let less : n < length ts = omega arith in
    let t : Took = slice_index_or ts n no_took in (
      (λ no. absurd (cc no)),
      (λ once. absurd (not_apart ts n t less (get_or_default ts n t no_took less) (sym c.if-has_reply.ensures) once)),
    )

pub loop-place-preserved : goal.loop-place-preserved
loop-place-preserved c =
    let ts = c.args.taken.now in
    let n = c.loop-place.place in
    let less : n < length ts = omega arith in
    let t : Took = slice_index_or ts n no_took in
    apart_more ts n t less (get_or_default ts n t no_took less) c.loop-place.invariant (sym c.if-has_reply.ensures)

pub returns : goal.returns
returns c =
    let ts = c.args.taken.now in
    let all : take c.loop-place.place ts ≡ ts = take_all c.loop-place.place ts (omega arith) in (
      (λ yes. no_repeats_from_distinct (map (λ t. t.replica) ts) (subst (λ (l : List Took). IsDistinct eqb (map (λ t. t.replica) l)) all c.loop-place.invariant)),
      (λ once. refl),
    )
