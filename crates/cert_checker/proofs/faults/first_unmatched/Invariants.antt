use Rattle.std.proofs.Common.{◌≡◌, ◌+◌}
use Rattle.stale_model.specs.Operations.{operations}
use Rattle.stale_model.specs.Faults.{IsUnmatched}
use Rattle.cert_checker.proofs.FirstFaults.{IsFreeTo}
use Rattle.cert_checker.proofs.faults.first_unmatched.Given as goal

abbrev pub invariant-loop-op : goal.invariant-loop-op
invariant-loop-op l = record {
  ops : l.op-items ≡ l.key.ops;
  free : IsFreeTo (IsUnmatched (operations l.key)) (operations l.key) (l.op-index + 1);
}
