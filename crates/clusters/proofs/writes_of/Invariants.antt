use Rattle.std.proofs.Common.{◌≡◌, ◌∷◌, length, take}
use Rattle.stale_model.specs.Operations.{initial_write}
use Rattle.clusters.specs.Tables.{IsTable, IsLone}
use Rattle.clusters.proofs.writes_of.Given as goal

abbrev pub invariant-loop-op : goal.invariant-loop-op
invariant-loop-op l =
    record {
      ops : l.op-items ≡ l.key.ops;
      writes : IsTable IsLone (initial_write ∷ take l.op-index l.key.ops) (length l.key.values) l.table.items;
    }
