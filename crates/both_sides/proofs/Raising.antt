-- Clusters with f later: their order, and what stands in the way where they are not free.
use Rattle.std.proofs.Common.{◌≡◌, ℕ, ◌+◌, ◌-◌, ◌≤◌, ◌<◌, List, get_or, sym, inl, inr, subst, arith}
use Rattle.std.specs.Prelude.{All}
use Rattle.std.specs.Int.{div_ceil}
use Rattle.std.specs.List.Sorted.{IsPermutation}
use Rattle.std.proofs.lemmas.Bool.{cases_lt}
use Rattle.std.proofs.lemmas.Grind.{div_ceil_times}
use Rattle.std.proofs.lemmas.List.Elements.{Contains-get_or}
use Rattle.std.proofs.lemmas.List.Sorted.{IsPermutation-sym, IsPermutation-refl, IsPermutation-map, Contains-permutation}
use Rattle.stale_model.specs.declared.Op.{Op}
use Rattle.stale_model.specs.declared.KeyOps.{KeyOps}
use Rattle.stale_model.specs.declared.Cluster.{Cluster}
use Rattle.stale_model.specs.Operations.{operations}
use Rattle.stale_model.specs.Valid.{IsValidKey}
use Rattle.stale_model.specs.Faults.{HasNone, IsMatchedKey}
use Rattle.stale_model.specs.Clusters.{AreClusters, writes_of, WriteRecordsDiffer}
use Rattle.stale_model.specs.Orders.{ListsEachOnce, IsWithoutRepeats}
use Rattle.stale_model.proofs.ClustersOne.{cluster_writes_differ}
use Rattle.stale_model.proofs.Sorted.{permuted_no_repeats}
use Rattle.stale_model.specs.Zones.{IsZoneOrder}
use Rattle.stale_model.specs.OperationOrders.{IsOperationOrder}
use Rattle.zones.specs.Conflicts.{HasConflict}
use Rattle.zones.specs.Sweeps.{IsOrderOf}
use Rattle.zones.proofs.Existence.{none_or_pair}
use Rattle.delta_score.specs.WriteLists.{write_records}
use Rattle.delta_score.proofs.ListedWrites.{clusters_list_writes}
use Rattle.both_sides.specs.Raised.{raised_clusters, IsFreeAt}
use Rattle.both_sides.specs.LeastSides.{IsEarlyOnBothSides, IsPrintedSideOrder, IsHalfUp}
use Rattle.both_sides.proofs.LaterFinishes.{writes_raised}
use Rattle.both_sides.proofs.EarlyClusters.{early_reads_are_early_clusters}

-- raised clusters differ in their write records, as the clusters do
pub raised_differ : (t : ℕ) (clusters : List Cluster) → WriteRecordsDiffer clusters → WriteRecordsDiffer (raised_clusters t clusters)
raised_differ t clusters differ = subst (λ (ws : List ℕ). IsWithoutRepeats ws) (sym (writes_raised t clusters)) differ

-- in any order they list each write once
pub raised_list_writes : (ops : List Op) (t : ℕ) (clusters zones : List Cluster) → AreClusters ops clusters → IsPermutation (raised_clusters t clusters) zones
    → ListsEachOnce (write_records ops) (writes_of zones)
raised_list_writes ops t clusters zones are each =
    let all = clusters_list_writes ops clusters clusters are (IsPermutation-refl clusters) in
    let writes : IsPermutation (writes_of clusters) (writes_of zones) =
    subst (λ (ws : List ℕ). IsPermutation ws (writes_of zones)) (writes_raised t clusters) (IsPermutation-map (λ (c : Cluster). c.write) (raised_clusters t clusters) zones each) in
    record {
      known = λ rec c. all.known rec (Contains-permutation (writes_of zones) (writes_of clusters) rec (IsPermutation-sym (writes_of clusters) (writes_of zones) writes) c);
      whole = λ rec c. Contains-permutation (writes_of clusters) (writes_of zones) rec writes (all.whole rec c);
      once = permuted_no_repeats (λ (c : Cluster). c.write) (raised_clusters t clusters) zones each (raised_differ t clusters (cluster_writes_differ ops clusters are));
    }

-- where they are not free and no read is early, some two are in conflict
pub raised_conflict : (key : KeyOps) (g : ℕ) (clusters : List Cluster) → IsValidKey key → IsMatchedKey (operations key) → AreClusters (operations key) clusters
    → (IsFreeAt (g + g) clusters → ⊥) → HasNone (IsEarlyOnBothSides (operations key) g) → HasConflict 0 (raised_clusters (g + g) clusters)
raised_conflict key g clusters valid matched are bound none =
    let raised = raised_clusters (g + g) clusters in
    let back = (early_reads_are_early_clusters key clusters g valid matched are).1 in
    let starts : All (λ (c : Cluster). c.w ≤ c.f) raised = λ k d within. elim (cases_lt (get_or raised k d).f (get_or raised k d).w) [
      | inl early ↦
          let (a, is) = back (get_or raised k d, Contains-get_or raised k d within, early) in
          absurd (none a is)
      | inr in_turn ↦ in_turn
    ] in
    elim (none_or_pair 0 raised (raised_differ (g + g) clusters (cluster_writes_differ (operations key) clusters are))) [
      | inl apart ↦ absurd (bound (record { in_turn = starts; no_conflict = apart }))
      | inr (i, j, pair) ↦ (i, j, pair.conflict)
    ]

-- the operations in the zone order of the clusters with f later by 2g
pub printed_order : (ops : List Op) (clusters : List Cluster) (g t : ℕ) (writes order : List ℕ) → t ≡ g + g → IsOrderOf 0 (raised_clusters t clusters) writes
    → IsOperationOrder ops 0 1 writes order → IsPrintedSideOrder ops clusters g order
printed_order ops clusters g t writes order twice is in_order = record {
  zones = is.zones;
  zone_order = subst (λ (n : ℕ). IsZoneOrder 0 (raised_clusters n clusters) is.zones) twice is.zone_order;
  operation_order = subst (λ (ws : List ℕ). IsOperationOrder ops 0 1 ws order) is.writes in_order;
}

-- a quotient by two, rounded up, is the half
pub half_up : (gap g : ℕ) → g ≡ div_ceil gap 2 → IsHalfUp gap g
half_up gap g is =
    let (enough, less) = div_ceil_times gap 2 (omega arith) in
    record { enough = omega arith; least = λ e h. omega arith }

-- twice what is less than the half is less than the gap
pub below_half : (gap g : ℕ) → IsHalfUp gap g → 0 < g → (g - 1) + (g - 1) < gap
below_half gap g half above = elim (cases_lt ((g - 1) + (g - 1)) gap) [
  | inl less ↦ less
  | inr enough ↦ let least = half.least (g - 1) enough in absurd (omega arith)
]
