use Rattle.std.proofs.Common.{◌≡◌, ◌+◌, length}
use Rattle.stale_model.specs.Operations.{operations}
use Rattle.cert_checker.proofs.WriteStarts.{AreStartsTo}
use Rattle.cert_checker.proofs.faults.first_duplicate.Given as goal

abbrev pub invariant-loop-op : goal.invariant-loop-op
invariant-loop-op l = record {
  ops : l.op-items ≡ l.key.ops;
  size : length l.starts.items ≡ length l.key.values + 1;
  slots : AreStartsTo (operations l.key) (l.op-index + 1) l.starts.items;
}
