use Rattle.std.proofs.Common.{◌-◌, ◌≤◌}
use Rattle.delta_score.specs.Scores.{AreBounds}
use Rattle.delta_score.proofs.least.least_between.Given as goal

abbrev pub invariant-loop-between : goal.invariant-loop-between
invariant-loop-between l = AreBounds l.sorted l.between × (l.fn.bounds.low ≤ l.between.low)

abbrev pub decreases-loop-between : goal.decreases-loop-between
decreases-loop-between l = l.between.high - l.between.low
