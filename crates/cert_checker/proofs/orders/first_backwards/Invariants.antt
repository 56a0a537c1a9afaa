use Rattle.std.proofs.Common.{◌<◌, ℕ}
use Rattle.stale_model.specs.Operations.{operations, records_of}
use Rattle.cert_checker.specs.OrderFaults.{IsBackwards}
use Rattle.cert_checker.proofs.Starts.{AreLatest}
use Rattle.cert_checker.proofs.orders.first_backwards.Given as goal

abbrev pub invariant-loop-op : goal.invariant-loop-op
invariant-loop-op l = record {
  latest : AreLatest l.listed l.op-index l.latest;
  none : (p : ℕ) → p < l.op-index → IsBackwards (operations l.key) l.d (records_of l.listed) p → ⊥;
}
