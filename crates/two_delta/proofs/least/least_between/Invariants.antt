use Rattle.std.proofs.Common.{◌≡◌}
use Rattle.std.specs.Prelude.{◌-◌}
use Rattle.two_delta.specs.Halving.{AreBounds}
use Rattle.two_delta.proofs.least.least_between.Given as goal

abbrev pub invariant-loop-low : goal.invariant-loop-low
invariant-loop-low l = record {
  kept : l.lists ≡ l.fn.lists;
  bounds : AreBounds l.clusters l.low l.high;
}

abbrev pub decreases-loop-low : goal.decreases-loop-low
decreases-loop-low l = l.high - l.low
