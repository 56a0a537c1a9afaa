use Rattle.std.proofs.Common.{◌≡◌, ◌+◌, ◌∷◌, length, take}
use Rattle.stale_model.specs.Operations.{initial_write}
use Rattle.both_sides.proofs.WriteStarts.{AreStartsOf}
use Rattle.both_sides.proofs.early.write_starts.Given as goal

abbrev pub invariant-loop-op : goal.invariant-loop-op
invariant-loop-op l =
    record {
      ops : l.op-items ≡ l.key.ops;
      many : length l.starts.items ≡ length l.key.values + 1;
      starts : AreStartsOf (initial_write ∷ take l.op-index l.key.ops) l.starts.items;
    }
