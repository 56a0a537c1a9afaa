use Rattle.lbt_epochs.proofs.RoundsSoFar.{AreRoundsSoFar}
use Rattle.lbt_epochs.proofs.rounds.rounds.Given as goal

abbrev pub invariant-loop-r : goal.invariant-loop-r
invariant-loop-r l = AreRoundsSoFar l.d l.clusters l.fn.lists l.lists l.r
