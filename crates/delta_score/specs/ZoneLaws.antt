-- The zone theorem (Gibbons and Korach 1997), where reads are taken to start d earlier (Golab, Li and Shah 2011).
use Rattle.std.specs.Prelude.{ℕ, ◌≤◌, ◌↔◌, List, Contains}
use Rattle.std.specs.List.Sorted.{IsPermutation}
use Rattle.stale_model.specs.declared.Op.{Op}
use Rattle.stale_model.specs.declared.KeyOps.{KeyOps}
use Rattle.stale_model.specs.declared.Cluster.{Cluster}
use Rattle.stale_model.specs.Operations.{operations, records_of, earliest_start, latest_finish}
use Rattle.stale_model.specs.Valid.{IsValidKey}
use Rattle.stale_model.specs.Faults.{HasNone, IsEarly, IsMatchedKey, IsClearKey}
use Rattle.stale_model.specs.Clusters.{writes_of, AreClusters}
use Rattle.stale_model.specs.NamedWrites.{NamesItsWrites}
use Rattle.stale_model.specs.Orders.{IsWithoutRepeats, ListsEachOnce, IsOrder}
use Rattle.stale_model.specs.LeastDelta.{HasOrder}
use Rattle.stale_model.specs.Zones.{HasNoConflict, HasNoCrossing, IsPairOf, four_of}
use Rattle.stale_model.specs.OperationOrders.{IsOperationOrder}
use Rattle.stale_model.specs.Shown.{FourHold}
use Rattle.delta_score.specs.WriteLists.{write_records}

-- the four records of the pair at d hold at d
abbrev pub PairsShowFour : Type 0
PairsShowFour = (ops : List Op) (d : ℕ) (clusters : List Cluster) (i j : Cluster) → NamesItsWrites ops → AreClusters ops clusters
    → IsPairOf d clusters i j → FourHold ops d (four_of d i j)

-- no read is early, and no two of the clusters conflict at d
pub record IsConflictFree (ops : List Op) (d : ℕ) (clusters : List Cluster) : Type 0 where
  pub no_early : HasNone (IsEarly ops)
  pub no_conflict : HasNoConflict d clusters

-- where there is an order with k = 1 at d, no read is early and no two clusters conflict at d
abbrev pub OrdersExcludeConflicts : Type 0
OrdersExcludeConflicts = (key : KeyOps) (d : ℕ) (clusters : List Cluster) → IsValidKey key → IsMatchedKey (operations key)
    → AreClusters (operations key) clusters → HasOrder (operations key) d 1 → IsConflictFree (operations key) d clusters

-- where none of the zones crosses an earlier one at d, the operations in the order of the zones are an order with k = 1 at d
abbrev pub ZoneOrdersAreOrders : Type 0
ZoneOrdersAreOrders = (key : KeyOps) (d : ℕ) (clusters zones : List Cluster) (order : List ℕ) → IsValidKey key → IsClearKey (operations key)
    → AreClusters (operations key) clusters → IsPermutation clusters zones → HasNoCrossing d zones
    → IsOperationOrder (operations key) d 1 (writes_of zones) order → IsOrder (operations key) d 1 order

-- the clusters, in any order, list each write once
abbrev pub ClustersListWrites : Type 0
ClustersListWrites = (ops : List Op) (clusters zones : List Cluster) → AreClusters ops clusters → IsPermutation clusters zones
    → ListsEachOnce (write_records ops) (writes_of zones)

-- there is an order with k = 1 at d exactly where no read is early and no two clusters conflict at d
abbrev pub ZoneTheorem : Type 0
ZoneTheorem = (key : KeyOps) (d : ℕ) (clusters : List Cluster) → IsValidKey key → IsMatchedKey (operations key) → AreClusters (operations key) clusters
    → HasOrder (operations key) d 1 ↔ IsConflictFree (operations key) d clusters

-- no operation finishes before it starts
abbrev pub FinishFromStart : List Op → Type 0
FinishFromStart ops = (a : Op) → Contains ops a → earliest_start a ≤ latest_finish a

-- all that the zone theorem asks of operations: no record stands twice, each value has exactly one write, and none finishes before it starts
pub record AreOrderable (ops : List Op) : Type 0 where
  pub records : IsWithoutRepeats (records_of ops)
  pub names : NamesItsWrites ops
  pub finish : FinishFromStart ops

-- the operations of a valid key that is neither duplicate nor unmatched are so
abbrev pub MatchedKeysAreOrderable : Type 0
MatchedKeysAreOrderable = (key : KeyOps) → IsValidKey key → IsMatchedKey (operations key) → AreOrderable (operations key)

-- for any operations: where there is an order with k = 1 at d, no read is early and no two clusters conflict at d
abbrev pub OrdersOfAnyExcludeConflicts : Type 0
OrdersOfAnyExcludeConflicts = (ops : List Op) (d : ℕ) (clusters : List Cluster) → NamesItsWrites ops → AreClusters ops clusters → HasOrder ops d 1
    → IsConflictFree ops d clusters

-- for any operations: where no read is early and no zone crosses an earlier one at d, the operations in the order of the zones are an order with k = 1 at d
abbrev pub ZoneOrdersOfAnyAreOrders : Type 0
ZoneOrdersOfAnyAreOrders = (ops : List Op) (d : ℕ) (clusters zones : List Cluster) (order : List ℕ) → AreOrderable ops → HasNone (IsEarly ops)
    → AreClusters ops clusters → IsPermutation clusters zones → HasNoCrossing d zones → IsOperationOrder ops d 1 (writes_of zones) order
    → IsOrder ops d 1 order

-- for any operations: there is an order with k = 1 at d exactly where no read is early and no two clusters conflict at d
abbrev pub ZoneTheoremOfAny : Type 0
ZoneTheoremOfAny = (ops : List Op) (d : ℕ) (clusters : List Cluster) → AreOrderable ops → AreClusters ops clusters
    → HasOrder ops d 1 ↔ IsConflictFree ops d clusters
