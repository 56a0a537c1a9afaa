use Rattle.std.proofs.Common.{◌≡◌, ◌+◌, true, length}
use Rattle.stale_model.specs.Operations.{operations}
use Rattle.cert_checker.specs.RefutationSteps.{IsWriteRecord, HaveMark}
use Rattle.cert_checker.proofs.Marks.{IsGoodTo}
use Rattle.cert_checker.proofs.refutations.first_stranger.Given as goal

abbrev pub invariant-loop-rec : goal.invariant-loop-rec
invariant-loop-rec l = record {
  size : length l.marks.items ≡ length l.key.values + 1;
  good : IsGoodTo (IsWriteRecord (operations l.key)) l.stuck l.rec-index;
  marked : HaveMark (operations l.key) l.stuck l.rec-index l.marks.items true;
}
