use Rattle.std.proofs.Common.{◌≡◌, ◌≤◌, length, sym, ◌∙◌, arith, subst}
use Rattle.std.specs.Prelude.{Contains}
use Rattle.stale_model.specs.Orders.{StandsAt}
use Rattle.stale_model.proofs.Places.{contains_at}
use Rattle.lbt_epochs.specs.Lists.{Lists, left}
use Rattle.lbt_epochs.specs.Steps.{chain_at, HasFailed, IsCut}
use Rattle.lbt_epochs.proofs.LeftPlaces.{left_no_more, left_within}
use Rattle.lbt_epochs.proofs.WritesOfPlaces.{nothing_next}
use Rattle.lbt_epochs.proofs.RoundSoFar.{stands_next, there_next, round_removes, untried_failed, untried_cut, round_stops, round_repeats, round_is_stuck}
use Rattle.lbt_epochs.proofs.rounds.round.Goals as goal
use Rattle.lbt_epochs.proofs.rounds.round.Goals.{in-Cut, in-Fails, else-loop-test, then-loop-test+in_default}

pub cluster_at-requires : goal.cluster_at-requires
cluster_at-requires c =
    left_within c.args.clusters.now c.args.lists.now c.requires c.in-Some.at
    (contains_at (left c.args.lists.now.placed c.args.lists.now.candidates) c.loop.counter c.in-Some.at (sym c.loop.invariant.so_far.next_is ∙ c.in-Some.is))

pub returns-then-all_fail_to : goal.returns-then-all_fail_to
returns-then-all_fail_to c =
    round_stops c.args.d c.args.clusters.now c.args.room c.args.lists.now c.loop.lists c.loop.counter c.in-Some.at c.loop.next c.loop.some_cut c.loop.invariant c.in-Some.is
    c.if-some_cut.true c.requires (rw c.cluster_at.ensures at (c.all_fail_to.ensures c.if-all_fail_to.true))

pub try_candidate-requires-clause-there : goal.try_candidate-requires-clause-there
try_candidate-requires-clause-there c =
    there_next c.args.d c.args.clusters.now c.args.room c.args.lists.now c.loop.lists c.loop.counter c.in-Some.at c.loop.next c.loop.invariant.tries c.loop.some_cut c.loop.invariant.so_far c.in-Some.is

pub returns-in-Ends : goal.returns-in-Ends
returns-in-Ends c =
    round_removes c.args.d c.args.clusters.now c.args.room c.args.lists.now c.loop.lists c.loop.counter c.in-Some.at c.loop.next c.loop.invariant.tries c.loop.some_cut c.loop.invariant.so_far c.in-Some.is
    c.try_candidate.new.lists c.in-Ends.ensures

pub next_candidate-next-requires : goal.next_candidate-next-requires
next_candidate-next-requires c =
    let there = there_next c.args.d c.args.clusters.now c.args.room c.args.lists.now c.loop.lists c.loop.counter c.in-Some.at c.loop.next c.loop.invariant.tries c.loop.some_cut c.loop.invariant.so_far c.in-Some.is in
    let kept : c.try_candidate.new.lists ≡ c.loop.lists = elim c.match-try_candidate.branch [
      | in-Cut w ↦ (let was : IsCut (chain_at c.args.d c.args.clusters.now c.args.room c.in-Some.at c.loop.lists) c.loop.lists c.try_candidate.new.lists = w.in-Cut.ensures in was.kept)
      | in-Fails w ↦ (let failed : HasFailed (chain_at c.args.d c.args.clusters.now c.args.room c.in-Some.at c.loop.lists) c.loop.lists c.try_candidate.new.lists w.in-Fails.field-0 = w.in-Fails.ensures in failed.kept)
    ] in
    subst (λ (l : Lists). Contains (left l.placed l.candidates) c.in-Some.at) (sym kept) there

pub loop-preserved : goal.loop-preserved
loop-preserved c =
    let stands = stands_next c.args.d c.args.clusters.now c.args.room c.args.lists.now c.loop.lists c.loop.counter c.in-Some.at c.loop.next c.loop.invariant.tries c.loop.some_cut c.loop.invariant.so_far c.in-Some.is in
    elim c.match-try_candidate.branch [
      | in-Cut w ↦
          (let was : IsCut (chain_at c.args.d c.args.clusters.now c.args.room c.in-Some.at c.loop.lists) c.loop.lists c.try_candidate.new.lists = w.in-Cut.ensures in
          let later = c.next_candidate-next.ensures c.loop.counter (subst (λ (l : Lists). StandsAt (left l.placed l.candidates) c.loop.counter c.in-Some.at) (sym was.kept) stands) in
          rw w.some_cut-is
          (untried_cut c.args.d c.args.clusters.now c.args.room c.args.lists.now c.loop.lists c.loop.counter c.in-Some.at c.loop.next c.loop.some_cut c.loop.invariant c.in-Some.is
          c.try_candidate.new.lists c.next_candidate-next.result was later))
      | in-Fails w ↦
          (let failed : HasFailed (chain_at c.args.d c.args.clusters.now c.args.room c.in-Some.at c.loop.lists) c.loop.lists c.try_candidate.new.lists w.in-Fails.field-0 = w.in-Fails.ensures in
          let later = c.next_candidate-next.ensures c.loop.counter (subst (λ (l : Lists). StandsAt (left l.placed l.candidates) c.loop.counter c.in-Some.at) (sym failed.kept) stands) in
          rw w.some_cut-is
          (untried_failed c.args.d c.args.clusters.now c.args.room c.args.lists.now c.loop.lists c.loop.counter c.in-Some.at c.loop.next c.loop.some_cut c.loop.invariant c.in-Some.is
          c.try_candidate.new.lists w.in-Fails.field-0 c.next_candidate-next.result failed later))
    ]

pub returns-then-some_cut-2 : goal.returns-then-some_cut-2
returns-then-some_cut-2 c =
    let n = left_no_more c.args.clusters.now c.args.lists.now c.requires in
    let all : length (left c.args.lists.now.placed c.args.lists.now.candidates) ≤ c.loop.counter = elim c.loop-test.branch [
      | else-loop-test w ↦ omega arith
      | then-loop-test+in_default w ↦ nothing_next _ _ (sym c.loop.invariant.so_far.next_is ∙ w.in_default.is)
    ] in
    round_repeats c.args.d c.args.clusters.now c.args.room c.args.lists.now c.loop.lists c.loop.counter c.loop.next c.loop.some_cut c.loop.invariant all c.if-some_cut-2.true

pub returns-else-some_cut-2 : goal.returns-else-some_cut-2
returns-else-some_cut-2 c =
    let n = left_no_more c.args.clusters.now c.args.lists.now c.requires in
    let all : length (left c.args.lists.now.placed c.args.lists.now.candidates) ≤ c.loop.counter = elim c.loop-test.branch [
      | else-loop-test w ↦ omega arith
      | then-loop-test+in_default w ↦ nothing_next _ _ (sym c.loop.invariant.so_far.next_is ∙ w.in_default.is)
    ] in
    round_is_stuck c.args.d c.args.clusters.now c.args.room c.args.lists.now c.loop.lists c.loop.counter c.loop.next c.loop.some_cut c.loop.invariant all c.if-some_cut-2.false
