-- Clusters at the places of sorted standings are in the zone order.
use Rattle.std.proofs.Common.{◌≡◌, ℕ, ◌+◌, ◌<◌, List, length, get_or, map, sym, ◌∙◌, ap, subst, arith}
use Rattle.std.specs.Prelude.{All, None}
use Rattle.std.specs.List.{enumerate_from}
use Rattle.std.specs.List.Sorted.{IsPermutation, IsSorted}
use Rattle.std.specs.Ordering.{is_lt}
use Rattle.std.specs.Cmp.{IsTotalOrder, nat_cmp_total, bool_cmp_total}
use Rattle.std.proofs.lemmas.Cmp.{then_total, on_total}
use Rattle.std.proofs.lemmas.List.{get_or-map, length-map, get_or_default, same_lists}
use Rattle.std.proofs.lemmas.List.FromFn.{length-enumerate_from, get_or-enumerate_from}
use Rattle.std.proofs.lemmas.List.Sorted.{IsPermutation-map, All-permutation}
use Rattle.stale_model.specs.declared.Cluster.{Cluster}
use Rattle.stale_model.specs.Zones.{zone_order, IsZoneOrder}
use Rattle.zones.specs.declared.standings.Standing.{Standing}
use Rattle.zones.specs.Standings.{standing_of, standing_order, standings_of, AreAtPlaces}

-- the order of standings is total
pub standing_order-total : IsTotalOrder standing_order
standing_order-total = then_total (then_total (on_total (λ s. s.start) nat_cmp_total) (on_total (λ s. s.forward) bool_cmp_total)) (on_total (λ s. s.write) nat_cmp_total)

-- some cluster, for places past the end
no_cluster : Cluster
no_cluster = record { write = 0; f = 0; w = 0; s = None; first = 0; last = 0 }

-- a standing is that of the cluster at its place
pub record IsPlaced (d : ℕ) (clusters : List Cluster) (s : Standing) : Type 0 where
  pub within : s.place < length clusters
  pub is : (none : Cluster) → s ≡ standing_of d s.place (get_or clusters s.place none)

module _ (d : ℕ) (clusters : List Cluster) where
  as_many : length (standings_of d clusters) ≡ length clusters
  as_many = length-map (enumerate_from 0 clusters) (λ p. standing_of d p.0 p.1) ∙ length-enumerate_from 0 clusters

  standing_here : (k : ℕ) (e : Standing) (none : Cluster) → k < length clusters → get_or (standings_of d clusters) k e ≡ standing_of d k (get_or clusters k none)
  standing_here k e none within =
      let n = length-enumerate_from 0 clusters in
      let zeroth : 0 + k ≡ k = omega arith in
      get_or-map (λ p. standing_of d p.0 p.1) (enumerate_from 0 clusters) k (0, none) e (omega arith)
      ∙ ap (λ (p : ℕ × Cluster). standing_of d p.0 p.1) (get_or-enumerate_from 0 clusters k (0, none) within)
      ∙ ap (λ (i : ℕ). standing_of d i (get_or clusters k none)) zeroth

  pub all_placed : All (IsPlaced d clusters) (standings_of d clusters)
  all_placed k e within =
      let n = as_many in
      let there : k < length clusters = omega arith in
      let place : (get_or (standings_of d clusters) k e).place ≡ k = ap (λ (s : Standing). s.place) (standing_here k e no_cluster there) in
      record {
        within = omega arith;
        is = λ none. standing_here k e none there ∙ ap (λ (i : ℕ). standing_of d i (get_or clusters i none)) (sym place);
      }

  -- the clusters at the places of all standings are all clusters
  all_back : (none : Cluster) → map (λ s. get_or clusters s.place none) (standings_of d clusters) ≡ clusters
  all_back none =
      let n = as_many in
      let m = length-map (standings_of d clusters) (λ (s : Standing). get_or clusters s.place none) in
      same_lists (map (λ s. get_or clusters s.place none) (standings_of d clusters)) clusters (m ∙ n)
      (λ k e within.
      let there : k < length clusters = omega arith in
      let past = standing_of d 0 none in
      get_or-map (λ (s : Standing). get_or clusters s.place none) (standings_of d clusters) k past e (omega arith)
      ∙ ap (λ (s : Standing). get_or clusters s.place none) (standing_here k past none there)
      ∙ get_or_default clusters k none e there)

  -- standings are ordered as their clusters are
  same_order : (none : Cluster) (x y : Standing) → IsPlaced d clusters x → IsPlaced d clusters y
      → standing_order x y ≡ zone_order d (get_or clusters x.place none) (get_or clusters y.place none)
  same_order none x y p q =
      ap (λ (s : Standing). standing_order s y) (p.is none)
      ∙ ap (λ (s : Standing). standing_order (standing_of d x.place (get_or clusters x.place none)) s) (q.is none)

  sorted_zones : (none : Cluster) (standings : List Standing) → All (IsPlaced d clusters) standings → IsSorted standing_order standings
      → IsSorted (zone_order d) (map (λ s. get_or clusters s.place none) standings)
  sorted_zones none standings placed sorted k e low within =
      let n = length-map standings (λ (s : Standing). get_or clusters s.place none) in
      let past = standing_of d 0 none in
      let zones = map (λ (s : Standing). get_or clusters s.place none) standings in
      let x = get_or standings (k + 1) past in
      let y = get_or standings k past in
      let next = get_or-map (λ (s : Standing). get_or clusters s.place none) standings (k + 1) past e (omega arith) in
      let here = get_or-map (λ (s : Standing). get_or clusters s.place none) standings k past e (omega arith) in
      ap (λ (c : Cluster). is_lt (zone_order d c (get_or zones k e))) next
      ∙ ap (λ (c : Cluster). is_lt (zone_order d (get_or clusters x.place none) c)) here
      ∙ ap is_lt (sym (same_order none x y (placed (k + 1) past (omega arith)) (placed k past (omega arith))))
      ∙ sorted k past low (omega arith)

  pub zone_order_from_places : (standings : List Standing) (zones : List Cluster) → IsPermutation (standings_of d clusters) standings → IsSorted standing_order standings
      → AreAtPlaces clusters standings zones → IsZoneOrder d clusters zones
  zone_order_from_places standings zones each_once sorted at =
      let e = at no_cluster in
      record {
        each_once =
            subst (λ (cs : List Cluster). IsPermutation cs zones) (all_back no_cluster)
            (subst (IsPermutation (map (λ s. get_or clusters s.place no_cluster) (standings_of d clusters))) (sym e)
            (IsPermutation-map (λ (s : Standing). get_or clusters s.place no_cluster) (standings_of d clusters) standings each_once));
        sorted =
            subst (IsSorted (zone_order d)) (sym e)
            (sorted_zones no_cluster standings (All-permutation (IsPlaced d clusters) (standings_of d clusters) standings each_once all_placed) sorted);
      }
