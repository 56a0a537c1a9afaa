use Rattle.std.proofs.Common.{◌≡◌, ◌≤◌, false, length, refl, sym, ◌∙◌, ap, arith, true, subst}
use Rattle.std.specs.Prelude.{is_ok, Contains}
use Rattle.stale_model.specs.Orders.{StandsAt}
use Rattle.lbt_epochs.specs.Lists.{Lists, left}
use Rattle.lbt_epochs.specs.Steps.{chain_at, HasTry}
use Rattle.lbt_epochs.proofs.LeftPlaces.{left_no_more}
use Rattle.lbt_epochs.proofs.WritesOfPlaces.{nothing_next}
use Rattle.lbt_epochs.proofs.RoundSoFar.{stands_next, there_next, chain_fails, round_failed, round_refutes}
use Rattle.lbt_epochs.proofs.rounds.failed_tries.Goals as goal
use Rattle.lbt_epochs.proofs.rounds.failed_tries.Goals.{else-loop-test, then-loop-test+in_default}

pub failed_try-requires-clause-fails : goal.failed_try-requires-clause-fails
failed_try-requires-clause-fails c =
    chain_fails c.args.d c.args.clusters.now c.args.room c.args.lists.now c.loop.lists c.loop.counter c.in-Some.at c.loop.next c.loop.tries.items false c.loop.invariant c.in-Some.is refl c.requires.stuck

pub next_candidate-next-requires : goal.next_candidate-next-requires
next_candidate-next-requires c =
    let there = there_next c.args.d c.args.clusters.now c.args.room c.args.lists.now c.loop.lists c.loop.counter c.in-Some.at c.loop.next c.loop.tries.items false c.loop.invariant c.in-Some.is in
    let failed : HasTry (chain_at c.args.d c.args.clusters.now c.args.room c.in-Some.at c.loop.lists) c.loop.lists c.failed_try.new.lists c.in_ok-failed.failed = c.in_ok-failed.ensures in
    subst (λ (l : Lists). Contains (left l.placed l.candidates) c.in-Some.at) (sym failed.kept) there

pub loop-preserved : goal.loop-preserved
loop-preserved c =
    let stands = stands_next c.args.d c.args.clusters.now c.args.room c.args.lists.now c.loop.lists c.loop.counter c.in-Some.at c.loop.next c.loop.tries.items false c.loop.invariant c.in-Some.is in
    let failed : HasTry (chain_at c.args.d c.args.clusters.now c.args.room c.in-Some.at c.loop.lists) c.loop.lists c.failed_try.new.lists c.in_ok-failed.failed = c.in_ok-failed.ensures in
    let later = c.next_candidate-next.ensures c.loop.counter (subst (λ (l : Lists). StandsAt (left l.placed l.candidates) c.loop.counter c.in-Some.at) (sym failed.kept) stands) in
    let went : is_ok c.push.result ≡ true = sym c.map_err.ensures.variant ∙ ap is_ok c.in_ok-map_err.was in
    let pushed = rw went at c.push.ensures.items in
    rw pushed
    (round_failed c.args.d c.args.clusters.now c.args.room c.args.lists.now c.loop.lists c.loop.counter c.in-Some.at c.loop.next c.loop.tries.items false c.loop.invariant c.in-Some.is
    c.failed_try.new.lists c.in_ok-failed.failed c.next_candidate-next.result failed later)

pub returns : goal.returns
returns c =
    let n = left_no_more c.args.clusters.now c.args.lists.now c.requires.ready in
    let all : length (left c.args.lists.now.placed c.args.lists.now.candidates) ≤ c.loop.counter = elim c.loop-test.branch [
      | else-loop-test w ↦ omega arith
      | then-loop-test+in_default w ↦ nothing_next _ _ (sym c.loop.invariant.next_is ∙ w.in_default.is)
    ] in
    rw c.from_vec.ensures
    (round_refutes c.args.d c.args.clusters.now c.args.room c.args.lists.now c.loop.lists c.loop.counter c.loop.next c.loop.tries.items c.loop.invariant all)
