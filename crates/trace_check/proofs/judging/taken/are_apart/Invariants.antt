use Rattle.std.proofs.Common.{eqb, map, take}
use Rattle.std.specs.List.{IsDistinct}
use Rattle.trace_check.proofs.judging.taken.are_apart.Given as goal

abbrev pub invariant-loop-place : goal.invariant-loop-place
invariant-loop-place l = IsDistinct eqb (map (λ t. t.replica) (take l.place l.taken))
