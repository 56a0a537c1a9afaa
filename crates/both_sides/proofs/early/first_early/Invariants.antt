use Rattle.std.proofs.Common.{◌≡◌, ◌∷◌, take}
use Rattle.stale_model.specs.Operations.{initial_write, operations}
use Rattle.clusters.proofs.Scanning.{IsNoneAmong}
use Rattle.both_sides.specs.LeastSides.{IsEarlyOnBothSides}
use Rattle.both_sides.proofs.early.first_early.Given as goal

abbrev pub invariant-loop-op : goal.invariant-loop-op
invariant-loop-op l =
    record {
      ops : l.op-items ≡ l.key.ops;
      none : IsNoneAmong (IsEarlyOnBothSides (operations l.key) l.g) (initial_write ∷ take l.op-index l.key.ops);
    }
