use Rattle.std.proofs.Common.{false}
use Rattle.lbt_epochs.proofs.RoundSoFar.{IsRoundSoFar}
use Rattle.lbt_epochs.proofs.rounds.failed_tries.Given as goal

abbrev pub invariant-loop : goal.invariant-loop
invariant-loop l = IsRoundSoFar l.d l.clusters l.room l.fn.lists l.lists l.counter l.next l.tries.items false
