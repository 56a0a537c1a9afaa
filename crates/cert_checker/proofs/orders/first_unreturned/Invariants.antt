use Rattle.std.proofs.Common.{◌≡◌, ◌≤◌, ◌+◌, take, length}
use Rattle.std.specs.Prelude.{count_by}
use Rattle.stale_model.specs.Operations.{operations, records_of}
use Rattle.stale_model.specs.Orders.{is_write_record}
use Rattle.cert_checker.proofs.Returning.{AreSlots, AreReturned}
use Rattle.cert_checker.proofs.orders.first_unreturned.Given as goal

abbrev pub invariant-loop-op : goal.invariant-loop-op
invariant-loop-op l = record {
  few : l.writes ≤ l.op-index;
  count : l.writes ≡ count_by (is_write_record (operations l.key)) (take l.op-index (records_of l.listed));
  size : length l.written.items ≡ length l.key.values + 1;
  slots : AreSlots (operations l.key) (records_of l.listed) l.op-index l.written.items;
  returned : AreReturned (operations l.key) (records_of l.listed) l.k l.op-index;
}
