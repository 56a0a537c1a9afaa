use Rattle.std.proofs.Common.{◌≡◌, ◌∷◌, length, take}
use Rattle.stale_model.specs.Operations.{initial_write, operations}
use Rattle.stale_model.specs.Faults.{IsUnmatched}
use Rattle.clusters.specs.Tables.{IsTable}
use Rattle.clusters.proofs.Gathering.{IsSeen}
use Rattle.clusters.proofs.Scanning.{IsNoneAmong, IsFirstEarly}
use Rattle.clusters.proofs.gather.Given as goal

abbrev pub invariant-loop-op : goal.invariant-loop-op
invariant-loop-op l =
    record {
      ops : l.op-items ≡ l.key.ops;
      clusters : IsTable (IsSeen (take l.op-index l.key.ops)) (operations l.key) (length l.key.values) l.table;
      matched : IsNoneAmong (IsUnmatched (operations l.key)) (initial_write ∷ take l.op-index l.key.ops);
      first_early : IsFirstEarly (operations l.key) (initial_write ∷ take l.op-index l.key.ops) l.early;
    }
