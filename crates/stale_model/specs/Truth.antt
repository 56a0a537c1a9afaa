-- What a verdict means, said of all orders of all operations of the key.
use Rattle.std.specs.Prelude.{◌≡◌, ℕ, List, length, Some, slice_get}
use Rattle.stale_model.specs.declared.Op.{Op}
use Rattle.stale_model.specs.declared.KeyOps.{KeyOps}
use Rattle.stale_model.specs.declared.Judgement.{Judgement}
use Rattle.stale_model.specs.declared.TwoPart.{TwoPart}
use Rattle.stale_model.specs.declared.TwoPart.TheVariants.{Yes, No}
use Rattle.stale_model.specs.declared.Verdict.{Verdict}
use Rattle.stale_model.specs.declared.Verdict.TheVariants.{Duplicate, Unmatched, Infinite, Judged}
use Rattle.stale_model.specs.Operations.{operations}
use Rattle.stale_model.specs.Faults.{IsDuplicateKey, IsUnmatchedKey, IsEarlyKey, IsMatchedKey}
use Rattle.stale_model.specs.Orders.{IsOrder}
use Rattle.stale_model.specs.LeastDelta.{IsLeastDelta, HasNoOrder, HasNoDelta}

-- rec is the least record of a read that ends before its write starts, and no d has an order, whatever k is
pub record IsNeverAtomic (ops : List Op) (rec : ℕ) : Type 0 where
  pub early : IsEarlyKey ops rec
  pub no_delta : (k : ℕ) → HasNoDelta ops k

-- an order in which each read returns one of the last two writes, or that there is none
abbrev pub TwoHolds : List Op → TwoPart → Type 0
TwoHolds ops (Yes order) = IsOrder ops 0 2 order
TwoHolds ops (No refutation) = HasNoOrder ops 0 2

-- delta is the least d at which there is an order, and order is one; two says whether the key is 2-atomic
pub record IsAtomicFrom (ops : List Op) (judgement : Judgement) : Type 0 where
  pub matched : IsMatchedKey ops
  pub least : IsLeastDelta ops 1 judgement.delta
  pub order : IsOrder ops judgement.delta 1 judgement.order
  pub two : TwoHolds ops judgement.two

-- what a verdict means
abbrev pub IsTrueOf : List Op → Verdict → Type 0
IsTrueOf ops (Duplicate rec) = IsDuplicateKey ops rec
IsTrueOf ops (Unmatched rec) = IsUnmatchedKey ops rec
IsTrueOf ops (Infinite rec) = IsNeverAtomic ops rec
IsTrueOf ops (Judged judgement) = IsAtomicFrom ops judgement

-- a verdict for each key, in the order of the keys, as this says of each
pub record EachKeyHas {V : Type 0} (Says : List Op → V → Type 0) (keys : List KeyOps) (verdicts : List V) : Type 0 where
  pub as_many : length verdicts ≡ length keys
  pub each : (i : ℕ) (key : KeyOps) (verdict : V) → slice_get keys i ≡ Some key → slice_get verdicts i ≡ Some verdict
      → Says (operations key) verdict
