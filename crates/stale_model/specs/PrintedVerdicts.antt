-- Which verdict is printed, where orders and records could be others: the clauses on it say which, never what is true.
use Rattle.std.specs.Prelude.{◌≡◌, ℕ, ◌-◌, ◌<◌, List, Option, Some, None}
use Rattle.stale_model.specs.declared.Op.{Op}
use Rattle.stale_model.specs.declared.KeyOps.{KeyOps}
use Rattle.stale_model.specs.declared.Cluster.{Cluster}
use Rattle.stale_model.specs.declared.Four.{Four}
use Rattle.stale_model.specs.declared.Two
use Rattle.stale_model.specs.declared.Judgement.{Judgement}
use Rattle.stale_model.specs.declared.TwoPart.{TwoPart}
use Rattle.stale_model.specs.declared.TwoPart.TheVariants.{Yes, No}
use Rattle.stale_model.specs.declared.Verdict.{Verdict}
use Rattle.stale_model.specs.declared.Verdict.TheVariants.{Duplicate, Unmatched, Infinite, Judged}
use Rattle.stale_model.specs.Faults.{IsDuplicateKey, IsUnmatchedKey, IsEarlyKey, IsClearKey}
use Rattle.stale_model.specs.Clusters.{AreClusters, writes_of}
use Rattle.stale_model.specs.Zones.{HasNoConflict, IsZoneOrder, IsFourOfPair}
use Rattle.stale_model.specs.OperationOrders.{IsOperationOrder}
use Rattle.stale_model.specs.Chains.{IsAnswer}
use Rattle.stale_model.specs.Truth.{EachKeyHas}

-- the order with k = 1 that is printed at d: the operations in the zone order
pub record IsPrintedOrder (ops : List Op) (clusters : List Cluster) (d : ℕ) (order : List ℕ) : Type 0 where
  pub zones : List Cluster
  pub zone_order : IsZoneOrder d clusters zones
  pub operation_order : IsOperationOrder ops d 1 (writes_of zones) order

-- no d is less than delta, or the four records are those of the pair at delta - 1
abbrev pub IsPrintedFour : List Cluster → ℕ → Option Four → Type 0
IsPrintedFour clusters delta None = delta ≡ 0
IsPrintedFour clusters delta (Some four) = (0 < delta) × IsFourOfPair clusters (delta - 1) four

-- the order with k = 2 that is printed: the operations in the order of the listing at 0
pub record IsPrintedListing (ops : List Op) (clusters : List Cluster) (order : List ℕ) : Type 0 where
  pub writes : List ℕ
  pub answer : IsAnswer 0 clusters (Two.TheVariants.Yes writes)
  pub operation_order : IsOperationOrder ops 0 2 writes order

-- what is printed of 2-atomicity
abbrev pub IsPrintedTwo : List Op → List Cluster → TwoPart → Type 0
IsPrintedTwo ops clusters (Yes order) = IsPrintedListing ops clusters order
IsPrintedTwo ops clusters (No refutation) = IsAnswer 0 clusters (Two.TheVariants.No refutation)

-- the judgement that is printed: delta is the least d at which no two clusters are in conflict, with the order there, the
-- records of the pair just below, and the listing or the refutation at 0
pub record IsPrintedJudgement (ops : List Op) (judgement : Judgement) : Type 0 where
  pub clear : IsClearKey ops
  pub clusters : List Cluster
  pub are : AreClusters ops clusters
  pub no_conflict : HasNoConflict judgement.delta clusters
  pub order : IsPrintedOrder ops clusters judgement.delta judgement.order
  pub four : IsPrintedFour clusters judgement.delta judgement.four
  pub two : IsPrintedTwo ops clusters judgement.two

-- this is the verdict that is printed of a key with these operations
abbrev pub IsPrintedVerdict : List Op → Verdict → Type 0
IsPrintedVerdict ops (Duplicate rec) = IsDuplicateKey ops rec
IsPrintedVerdict ops (Unmatched rec) = IsUnmatchedKey ops rec
IsPrintedVerdict ops (Infinite rec) = IsEarlyKey ops rec
IsPrintedVerdict ops (Judged judgement) = IsPrintedJudgement ops judgement

-- the verdict that is printed of each key
abbrev pub ArePrintedVerdicts : List KeyOps → List Verdict → Type 0
ArePrintedVerdicts keys verdicts = EachKeyHas IsPrintedVerdict keys verdicts
