use Rattle.delta_score.proofs.FinishOrders.{IsLastBefore}
use Rattle.delta_score.proofs.conflicts.conflict_in.Given as goal

abbrev pub invariant-loop-place : goal.invariant-loop-place
invariant-loop-place l = IsLastBefore l.d l.sorted l.place l.last
