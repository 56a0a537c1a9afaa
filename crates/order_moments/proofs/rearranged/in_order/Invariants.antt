use Rattle.std.proofs.Common.{◌≡◌, take}
use Rattle.std.specs.Prelude.{Contains}
use Rattle.stale_model.specs.declared.Op.{Op}
use Rattle.stale_model.specs.Operations.{operations, records_of}
use Rattle.order_moments.proofs.rearranged.in_order.Given as goal

abbrev pub invariant-loop-rec : goal.invariant-loop-rec
invariant-loop-rec l = record {
  records : records_of l.ordered.items ≡ take l.rec-index l.order;
  known : (a : Op) → Contains l.ordered.items a → Contains (operations l.key) a;
}
