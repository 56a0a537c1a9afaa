use Rattle.std.proofs.Common.{◌≡◌, length, take}
use Rattle.std.specs.Prelude.{Contains}
use Rattle.stale_model.specs.Operations.{operations, records_of}
use Rattle.cert_checker.specs.Steps.{AreListed, AreMarks}
use Rattle.cert_checker.proofs.Marks.{IsGoodTo}
use Rattle.cert_checker.proofs.orders.follow.Given as goal

abbrev pub invariant-loop-rec : goal.invariant-loop-rec
invariant-loop-rec l = record {
  one_each : length l.marks.items ≡ length (operations l.key);
  good : IsGoodTo (Contains (records_of (operations l.key))) l.order l.rec-index;
  marked : AreMarks (records_of (operations l.key)) l.order l.rec-index l.marks.items;
  in_order : AreListed (operations l.key) (take l.rec-index l.order) l.ops.items;
}
