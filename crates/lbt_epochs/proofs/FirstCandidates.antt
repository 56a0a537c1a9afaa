-- The candidates that the first epoch begins with.
use Rattle.std.proofs.Common.{◌≡◌, true, ℕ, ◌+◌, List, [], ◌∷◌, map, length, refl, sym, ◌∙◌, ap, subst, arith}
use Rattle.std.specs.List.{filter, range_with_len}
use Rattle.std.specs.List.Sorted.{IsPermutation, IsSorted}
use Rattle.std.specs.Ordering.{on}
use Rattle.std.specs.declared.cmp.Ordering.{Ordering}
use Rattle.std.proofs.lemmas.List.{get_or-map, length-map}
use Rattle.std.proofs.lemmas.List.Sorted.{IsPermutation-map}
use Rattle.std.proofs.lemmas.List.FromFn.{fill_by_all}
use Rattle.stale_model.specs.declared.Cluster.{Cluster}
use Rattle.stale_model.specs.Chains.{candidate_order, AreCandidates}
use Rattle.lbt_epochs.specs.Lists.{Lists, left, cluster_at, no_cluster, AreListsOf}
use Rattle.lbt_epochs.specs.Steps.{clusters_left}
use Rattle.lbt_epochs.proofs.Filters.{filter_all}
use Rattle.lbt_epochs.proofs.LinksRing.{left-nil}

sorted_mapped : {X Y : Type 0} (order : Y → Y → Ordering) (f : X → Y) (xs : List X) → IsSorted (on f order) xs → IsSorted order (map f xs)
sorted_mapped order f [] sorted k d low high = absurd (omega arith)
sorted_mapped order f (x ∷ xs) sorted k d low high =
    let n = length-map (x ∷ xs) f in
    let p = get_or-map f (x ∷ xs) (k + 1) x d (omega arith) in
    let q = get_or-map f (x ∷ xs) k x d (omega arith) in
    rw (p, q) (sorted k x low (omega arith))

-- the clusters at their places
places_of_all : (clusters : List Cluster) → map (cluster_at clusters) (filter (λ at. true) (range_with_len 0 (length clusters))) ≡ clusters
places_of_all clusters = ap (map (cluster_at clusters)) (filter_all (range_with_len 0 (length clusters))) ∙ sym (fill_by_all (cluster_at clusters) clusters (length clusters) no_cluster refl (λ k l. refl))

-- where none is placed, those that are left are the candidates
pub candidates_are_left : (clusters : List Cluster) (lists : Lists) → AreListsOf clusters lists → lists.placed ≡ [] → AreCandidates clusters (clusters_left clusters lists)
candidates_are_left clusters lists are none =
    let all = filter (λ at. true) (range_with_len 0 (length clusters)) in
    let left_is : left lists.placed lists.candidates ≡ lists.candidates = ap (λ (placed : List ℕ). left placed lists.candidates) none ∙ left-nil lists.candidates in
    let each = IsPermutation-map (cluster_at clusters) all lists.candidates are.candidates.each_once in
    let here = subst (λ (cs : List Cluster). IsPermutation cs (map (cluster_at clusters) lists.candidates)) (places_of_all clusters) each in
    subst (λ (places : List ℕ). AreCandidates clusters (map (cluster_at clusters) places)) (sym left_is)
    (record { each_once = here; sorted = sorted_mapped candidate_order (cluster_at clusters) lists.candidates are.candidates.sorted })
