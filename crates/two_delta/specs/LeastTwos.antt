-- The least Δ for 2-atomicity: which answer is printed, and what shows that it is the least.
use Rattle.std.specs.Prelude.{◌≡◌, ℕ, ◌-◌, ◌<◌, List, Option, Some, None}
use Rattle.stale_model.specs.declared.Op.{Op}
use Rattle.stale_model.specs.declared.KeyOps.{KeyOps}
use Rattle.stale_model.specs.declared.Cluster.{Cluster}
use Rattle.stale_model.specs.declared.Refutation.{Refutation}
use Rattle.stale_model.specs.declared.Two.TheVariants.{Yes, No}
use Rattle.stale_model.specs.Operations.{operations}
use Rattle.stale_model.specs.Valid.{IsValidKey}
use Rattle.stale_model.specs.Faults.{IsMatchedKey, IsClearKey}
use Rattle.stale_model.specs.NamedWrites.{NamesItsWrites}
use Rattle.stale_model.specs.Clusters.{AreClusters}
use Rattle.stale_model.specs.Orders.{IsOrder}
use Rattle.stale_model.specs.LeastDelta.{IsLeastDelta}
use Rattle.stale_model.specs.OperationOrders.{IsOperationOrder}
use Rattle.stale_model.specs.Chains.{IsAnswer}
use Rattle.stale_model.specs.Refutations.{RefutationHolds}
use Rattle.two_delta.specs.declared.least.LeastTwo.{LeastTwo}

-- the clusters of some valid key that has no fault
pub record AreOfClearKey (clusters : List Cluster) : Type 0 where
  pub key : KeyOps
  pub valid : IsValidKey key
  pub clear : IsClearKey (operations key)
  pub are : AreClusters (operations key) clusters

-- nothing is less than delta, or the refutation is the answer at delta - 1
abbrev pub IsPrintedBelow : List Cluster → ℕ → Option Refutation → Type 0
IsPrintedBelow clusters delta None = delta ≡ 0
IsPrintedBelow clusters delta (Some refutation) = (0 < delta) × IsAnswer (delta - 1) clusters (No refutation)

-- the answer that is printed: the listing at delta, and the refutation just below
pub record IsPrintedLeast (clusters : List Cluster) (least : LeastTwo) : Type 0 where
  pub listing : IsAnswer least.delta clusters (Yes least.listing)
  pub below : IsPrintedBelow clusters least.delta least.refutation

-- nothing is less than delta, or the refutation holds at delta - 1
abbrev pub RefutationShows : List Op → ℕ → Option Refutation → Type 0
RefutationShows ops delta None = delta ≡ 0
RefutationShows ops delta (Some refutation) = (0 < delta) × RefutationHolds ops (delta - 1) refutation

-- the order is one with k = 2 at delta, and the refutation shows that nothing less will do
pub record ShowsLeastTwo (ops : List Op) (delta : ℕ) (order : List ℕ) (refutation : Option Refutation) : Type 0 where
  pub is_order : IsOrder ops delta 2 order
  pub below : RefutationShows ops delta refutation

-- what shows it makes delta the least for 2-atomicity: from precedence and orders alone
abbrev pub ShownTwosAreLeast : Type 0
ShownTwosAreLeast = (ops : List Op) (delta : ℕ) (order : List ℕ) (refutation : Option Refutation) → NamesItsWrites ops
    → ShowsLeastTwo ops delta order refutation → IsLeastDelta ops 2 delta

-- what is accepted of a valid key without duplicates and unmatched reads makes delta the least for 2-atomicity
abbrev pub AcceptedTwosAreLeast : Type 0
AcceptedTwosAreLeast = (key : KeyOps) (delta : ℕ) (order : List ℕ) (refutation : Option Refutation) → IsValidKey key → IsMatchedKey (operations key)
    → ShowsLeastTwo (operations key) delta order refutation → IsLeastDelta (operations key) 2 delta

-- the answer that is printed for a clear key is shown by the order that its listing gives and by its refutation
abbrev pub PrintedLeastsAreShown : Type 0
PrintedLeastsAreShown = (key : KeyOps) (clusters : List Cluster) (least : LeastTwo) (order : List ℕ) → IsValidKey key → IsClearKey (operations key)
    → AreClusters (operations key) clusters → IsPrintedLeast clusters least → IsOperationOrder (operations key) least.delta 2 least.listing order
    → ShowsLeastTwo (operations key) least.delta order least.refutation
