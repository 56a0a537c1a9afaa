use Rattle.std.proofs.Common.{◌≡◌, sym, ◌∙◌, ap, arith, Some, true}
use Rattle.std.specs.Prelude.{slice_get, is_ok}
use Rattle.stale_model.proofs.Places.{contains_at}
use Rattle.lbt_epochs.specs.Lists.{left}
use Rattle.lbt_epochs.proofs.LeftPlaces.{left_no_more, stands_within}
use Rattle.lbt_epochs.proofs.WritesOfPlaces.{written_more, written_all, nothing_next}
use Rattle.lbt_epochs.proofs.epochs.left_writes.Goals as goal
use Rattle.lbt_epochs.proofs.epochs.left_writes.Goals.{else-loop-test, then-loop-test+in_default}

pub cluster_at-requires : goal.cluster_at-requires
cluster_at-requires c =
    stands_within c.args.clusters.now c.args.lists.now c.requires c.requires.lists_are.candidates c.loop.counter c.in-Some.at (sym c.in-Some.is ∙ c.loop.invariant.next_is)

pub next_candidate-next-requires : goal.next_candidate-next-requires
next_candidate-next-requires c =
    contains_at (left c.args.lists.now.placed c.args.lists.now.candidates) c.loop.counter c.in-Some.at (sym c.loop.invariant.next_is ∙ c.in-Some.is)

pub loop-preserved : goal.loop-preserved
loop-preserved c =
    let places = left c.args.lists.now.placed c.args.lists.now.candidates in
    let stands : slice_get places c.loop.counter ≡ Some c.in-Some.at = sym c.loop.invariant.next_is ∙ c.in-Some.is in
    let went : is_ok c.push.result ≡ true = sym c.map_err.ensures.variant ∙ ap is_ok c.in_ok-map_err.was in
    let pushed = rw (went, c.cluster_at.ensures) at c.push.ensures.items in
    rw pushed
    (written_more c.args.clusters.now places c.loop.counter c.in-Some.at c.next_candidate-next.result c.loop.next c.loop.writes.items c.loop.invariant c.in-Some.is
    (c.next_candidate-next.ensures c.loop.counter stands))

pub returns : goal.returns
returns c =
    let n = left_no_more c.args.clusters.now c.args.lists.now c.requires in
    c.from_vec.ensures ∙ written_all c.args.clusters.now (left c.args.lists.now.placed c.args.lists.now.candidates) c.loop.counter c.loop.next c.loop.writes.items c.loop.invariant
    (elim c.loop-test.branch [
      | else-loop-test w ↦ omega arith
      | then-loop-test+in_default w ↦ nothing_next _ _ (sym c.loop.invariant.next_is ∙ w.in_default.is)
    ])
