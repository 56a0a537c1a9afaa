-- The places of clusters, which were sorted by keys.
use Rattle.std.proofs.Common.{◌≡◌, ℕ, ◌+◌, Bool, List, [], ◌∷◌, get_or, map, length, refl, ap, subst, arith}
use Rattle.std.specs.Prelude.{Contains}
use Rattle.std.specs.List.{filter, range_with_len}
use Rattle.std.specs.List.Sorted.{IsPermutation, IsSorted}
use Rattle.std.specs.declared.cmp.Ordering.{Ordering}
use Rattle.std.proofs.lemmas.List.{get_or-map, length-map}
use Rattle.std.proofs.lemmas.List.Elements.{Contains-get_or}
use Rattle.std.proofs.lemmas.List.Sorted.{Contains-permutation, IsPermutation-sym, IsPermutation-map}
use Rattle.stale_model.specs.declared.Cluster.{Cluster}
use Rattle.stale_model.proofs.Members.{before_mapped}
use Rattle.lbt_epochs.specs.declared.keys.Key.{Key}
use Rattle.lbt_epochs.specs.Lists.{cluster_at, ArePlacesBy}
use Rattle.lbt_epochs.specs.Keys.{key_at, keys_of}

module _ (clusters : List Cluster) (tick : Cluster → ℕ) where
  places_alone : (places : List ℕ) → map (λ (key : Key). key.at) (map (key_at tick clusters) places) ≡ places
  places_alone [] = refl
  places_alone (at ∷ places) = ap (λ (l : List ℕ). at ∷ l) (places_alone places)

  module _ (passes : Cluster → Bool) (order : Cluster → Cluster → Ordering) (key_order : Key → Key → Ordering)
      (alike : (a b : ℕ) → key_order (key_at tick clusters a) (key_at tick clusters b) ≡ order (cluster_at clusters a) (cluster_at clusters b))
      (sorted : List Key) (permuted : IsPermutation (keys_of passes tick clusters) sorted) where
    abbrev passing : List ℕ
    passing = filter (λ at. passes (cluster_at clusters at)) (range_with_len 0 (length clusters))

    -- each is the key of the cluster at its place
    is_of_place : (key : Key) → Contains sorted key → key_at tick clusters key.at ≡ key
    is_of_place key there =
        let before = Contains-permutation sorted (keys_of passes tick clusters) key (IsPermutation-sym _ _ permuted) there in
        let (at, _, e) = before_mapped (key_at tick clusters) passing key before in
        subst (λ (key : Key). key_at tick clusters key.at ≡ key) e refl

    -- so keys stand as their clusters do
    keys_stand_alike : (a b : Key) → Contains sorted a → Contains sorted b → key_order a b ≡ order (cluster_at clusters a.at) (cluster_at clusters b.at)
    keys_stand_alike a b here there =
        let e = alike a.at b.at in
        rw (is_of_place a here, is_of_place b there) at e

    -- and the places of sorted keys are sorted
    pub sorted_places : IsSorted key_order sorted → ArePlacesBy clusters passes order (map (λ key. key.at) sorted)
    sorted_places up = record {
      each_once = subst (λ (l : List ℕ). IsPermutation l (map (λ key. key.at) sorted)) (places_alone passing) (IsPermutation-map (λ (key : Key). key.at) _ sorted permuted);
      sorted = λ k d low high.
          let e = key_at tick clusters d in
          let n = length-map sorted (λ (key : Key). key.at) in
          let next = get_or-map (λ (key : Key). key.at) sorted (k + 1) e d (omega arith) in
          let this = get_or-map (λ (key : Key). key.at) sorted k e d (omega arith) in
          let same = keys_stand_alike (get_or sorted (k + 1) e) (get_or sorted k e) (Contains-get_or sorted (k + 1) e (omega arith)) (Contains-get_or sorted k e (omega arith)) in
          rw (next, this, ← same) (up k e low (omega arith));
    }
