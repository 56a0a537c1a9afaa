-- There is a zone order, and a pair unless there is no conflict.
use Rattle.std.proofs.Common.{◌≡◌, ◌⊎◌, ℕ, zero, suc, ◌+◌, List, length, max, inl, inr, arith}
use Rattle.std.proofs.lemmas.Bool.{cases_lt}
use Rattle.stale_model.specs.declared.Cluster.{Cluster}
use Rattle.stale_model.specs.Clusters.{WriteRecordsDiffer}
use Rattle.stale_model.specs.Zones.{last_start, zone_order, HasNoConflict, HasNoCrossing}
use Rattle.stale_model.proofs.Places.{something_at}
use Rattle.stale_model.proofs.Sorting.{sorted_there}
use Rattle.stale_model.proofs.ZoneOrders.{zone_order-total}
use Rattle.zones.specs.Laws.{ZoneOrdersExist, PairsExist}
use Rattle.zones.specs.Sweeps.{IsLaterOfPair, IsPairInConflict}
use Rattle.zones.proofs.Crossings.{no_conflict-from_no_crossing, pair_of_clusters}
use Rattle.zones.proofs.Greatest.{IsGreatestBefore, none_before, crossing_at, IsGreatestBefore-more, no_crossing-at_end}

pub zone_orders_exist : ZoneOrdersExist
zone_orders_exist d clusters =
    let (zones, each_once, sorted) = sorted_there (zone_order d) (zone_order-total d) clusters in
    (zones, record { each_once = each_once; sorted = sorted })

-- a sweep over the zones that are left
crosses_or_not : (d : ℕ) (zones : List Cluster) (left place greatest : ℕ) → place + left ≡ length zones → IsGreatestBefore d zones place greatest
    → HasNoCrossing d zones ⊎ ((j : Cluster) × IsLaterOfPair d zones j)
crosses_or_not d zones zero place greatest all g = inl (no_crossing-at_end d zones place greatest g (omega arith))
crosses_or_not d zones (suc left) place greatest all g =
    let (zone, at) = something_at zones place (omega arith) in
    elim (cases_lt zone.f greatest) [
      | inl low ↦ inr (zone, crossing_at d zones place greatest zone g at low)
      | inr high ↦ crosses_or_not d zones left (place + 1) (max greatest (last_start d zone)) (omega arith) (IsGreatestBefore-more d zones place greatest zone g at high)
    ]

-- no two of the clusters are in conflict, or there is a pair, which is
pub none_or_pair : (d : ℕ) (clusters : List Cluster) → WriteRecordsDiffer clusters → HasNoConflict d clusters ⊎ ((i : Cluster) × (j : Cluster) × IsPairInConflict d clusters i j)
none_or_pair d clusters differ =
    let (zones, order) = zone_orders_exist d clusters in
    elim (crosses_or_not d zones (length zones) zero zero (omega arith) (none_before d zones)) [
      | inl none ↦ inl (no_conflict-from_no_crossing d clusters zones differ order none)
      | inr (j, later) ↦ inr (later.0, j, pair_of_clusters d clusters zones differ order later.0 j later.1)
    ]

pub pairs_exist : PairsExist
pairs_exist d clusters differ = elim (none_or_pair d clusters differ) [ inl none ↦ inl none | inr (i, j, pair) ↦ inr (i, j, pair.pair) ]
