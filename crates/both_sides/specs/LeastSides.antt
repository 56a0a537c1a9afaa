-- The least g at which there is a side order, and what is printed and shown beside it.
use Rattle.std.specs.Prelude.{◌≡◌, ◌≢◌, ◌↔◌, ℕ, ◌+◌, ◌-◌, ◌<◌, ◌≤◌, List}
use Rattle.stale_model.specs.declared.Op.{Op}
use Rattle.stale_model.specs.declared.KeyOps.{KeyOps}
use Rattle.stale_model.specs.declared.Four.{Four}
use Rattle.stale_model.specs.declared.Cluster.{Cluster}
use Rattle.stale_model.specs.Operations.{operations}
use Rattle.stale_model.specs.Valid.{IsValidKey}
use Rattle.stale_model.specs.Faults.{IsReadIn, IsWriteOf, HasNone, IsLeastRecord, IsMatchedKey}
use Rattle.stale_model.specs.Refutations.{IsOfRecord}
use Rattle.stale_model.specs.Clusters.{AreClusters, writes_of}
use Rattle.stale_model.specs.Zones.{IsZoneOrder, IsFourOfPair}
use Rattle.stale_model.specs.OperationOrders.{IsOperationOrder}
use Rattle.stale_model.specs.Sides.{IsBeforeOnBothSides, IsSideOrder, IsLeastSides}
use Rattle.both_sides.specs.declared.least.Shown.{Shown}
use Rattle.both_sides.specs.declared.least.Shown.TheVariants.{Nothing, Early, Pair}
use Rattle.both_sides.specs.declared.least.Sides.{Sides}
use Rattle.both_sides.specs.Raised.{raised_clusters, HasEarlyCluster, IsGap}

-- a is a read that is on both sides before its write at g
pub record IsEarlyOnBothSides (ops : List Op) (g : ℕ) (a : Op) : Type 0 where
  pub read : IsReadIn ops a
  pub before : (w : Op) × IsWriteOf ops a.value w × IsBeforeOnBothSides g a w

-- the four records are of two clusters, and an operation of each is before one of the other on both sides at g
pub record FourHoldOnBothSides (ops : List Op) (g : ℕ) (four : Four) : Type 0 where
  pub p : Op
  pub q : Op
  pub q2 : Op
  pub p2 : Op
  pub p_is : IsOfRecord ops four.p p
  pub q_is : IsOfRecord ops four.q q
  pub q2_is : IsOfRecord ops four.q2 q2
  pub p2_is : IsOfRecord ops four.p2 p2
  pub one : p.value ≡ p2.value
  pub other : q.value ≡ q2.value
  pub apart : p.value ≢ q.value
  pub there : IsBeforeOnBothSides g p q
  pub back : IsBeforeOnBothSides g q2 p2

-- no read is early on both sides, the four records hold there, and they are those of the pair at 0 of the clusters with f later by 2g
pub record ShowsPair (ops : List Op) (clusters : List Cluster) (g : ℕ) (four : Four) : Type 0 where
  pub no_early : HasNone (IsEarlyOnBothSides ops g)
  pub hold : FourHoldOnBothSides ops g four
  pub printed : IsFourOfPair (raised_clusters (g + g) clusters) 0 four

-- what shows that nothing less than g will do: nothing is less, or at g - 1 the least record of an early read, else the four records of a pair
abbrev pub IsShownBelow : List Op → List Cluster → ℕ → Shown → Type 0
IsShownBelow ops clusters g Nothing = g ≡ 0
IsShownBelow ops clusters g (Early rec) = (0 < g) × IsLeastRecord (IsEarlyOnBothSides ops (g - 1)) rec
IsShownBelow ops clusters g (Pair four) = (0 < g) × ShowsPair ops clusters (g - 1) four

-- the side order that is printed at g: the operations in the zone order at 0 of the clusters with f later by 2g
pub record IsPrintedSideOrder (ops : List Op) (clusters : List Cluster) (g : ℕ) (order : List ℕ) : Type 0 where
  pub zones : List Cluster
  pub zone_order : IsZoneOrder 0 (raised_clusters (g + g) clusters) zones
  pub operation_order : IsOperationOrder ops 0 1 (writes_of zones) order

-- g is the least at which there is a side order, order is one, and what is printed and shown
pub record AreSides (ops : List Op) (clusters : List Cluster) (sides : Sides) : Type 0 where
  pub least : IsLeastSides ops sides.g
  pub order : IsSideOrder ops sides.g sides.order
  pub printed : IsPrintedSideOrder ops clusters sides.g sides.order
  pub shown : IsShownBelow ops clusters sides.g sides.shown

-- half of a number, rounded up
pub record IsHalfUp (gap g : ℕ) : Type 0 where
  pub enough : gap ≤ g + g
  pub least : (e : ℕ) → gap ≤ e + e → g ≤ e

-- half of the gap of a key's clusters, rounded up, is the least g at which there is a side order
abbrev pub HalfGapsAreLeast : Type 0
HalfGapsAreLeast = (key : KeyOps) (clusters : List Cluster) (gap g : ℕ) → IsValidKey key → IsMatchedKey (operations key)
    → AreClusters (operations key) clusters → IsGap clusters gap → IsHalfUp gap g → IsLeastSides (operations key) g

-- where the clusters are free at 2g, the printed order is a side order at g
abbrev pub PrintedSideOrdersAreSideOrders : Type 0
PrintedSideOrdersAreSideOrders = (key : KeyOps) (clusters : List Cluster) (gap g : ℕ) (order : List ℕ) → IsValidKey key → IsMatchedKey (operations key)
    → AreClusters (operations key) clusters → IsGap clusters gap → gap ≤ g + g → IsPrintedSideOrder (operations key) clusters g order
    → IsSideOrder (operations key) g order

-- the four records of the pair at 0 of the clusters with f later by 2g are before each other on both sides at g
abbrev pub PairsHoldOnBothSides : Type 0
PairsHoldOnBothSides = (key : KeyOps) (clusters : List Cluster) (g : ℕ) (four : Four) → IsValidKey key → IsMatchedKey (operations key)
    → AreClusters (operations key) clusters → IsFourOfPair (raised_clusters (g + g) clusters) 0 four
    → FourHoldOnBothSides (operations key) g four

-- some read is early on both sides at g exactly where some cluster is early once f is later by 2g
abbrev pub EarlyReadsAreEarlyClusters : Type 0
EarlyReadsAreEarlyClusters = (key : KeyOps) (clusters : List Cluster) (g : ℕ) → IsValidKey key → IsMatchedKey (operations key)
    → AreClusters (operations key) clusters → ((a : Op) × IsEarlyOnBothSides (operations key) g a) ↔ HasEarlyCluster (raised_clusters (g + g) clusters)
