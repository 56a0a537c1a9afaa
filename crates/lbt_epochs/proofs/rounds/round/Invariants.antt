use Rattle.lbt_epochs.proofs.RoundSoFar.{IsUntriedSoFar}
use Rattle.lbt_epochs.proofs.rounds.round.Given as goal

abbrev pub invariant-loop : goal.invariant-loop
invariant-loop l = IsUntriedSoFar l.d l.clusters l.room l.fn.lists l.lists l.counter l.next l.some_cut
