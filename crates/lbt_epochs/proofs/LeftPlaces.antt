-- The places that are left, by the clusters at them.
use Rattle.std.proofs.Common.{◌≡◌, ℕ, ◌<◌, ◌≤◌, Bool, true, false, not, ◌&&◌, ◌||◌, List, [], ◌∷◌, map, Some, length, get_or, ltb, eqb, refl, sym, ◌∙◌, ap, arith}
use Rattle.std.specs.Prelude.{Contains, AllPairs, is_some, slice_get}
use Rattle.std.specs.List.{filter, list_any, range_with_len, IsDistinct}
use Rattle.std.specs.declared.cmp.Ordering.{Ordering}
use Rattle.std.specs.Ordering.{nat_cmp, on, then_cmp, flip_args, is_lt, ordering_then}
use Rattle.std.specs.Cmp.{IsTotalOrder}
use Rattle.std.proofs.lemmas.Bool.{eqb-false, ne_eqb}
use Rattle.std.proofs.lemmas.Bool.Decides.{nat_tests}
use Rattle.std.proofs.lemmas.Cmp.{nat_cmp_total, on_total, then_total, back_total}
use Rattle.std.proofs.lemmas.Option.{slice_get-get_or}
use Rattle.std.proofs.lemmas.List.{get_or-map, length-map}
use Rattle.std.proofs.lemmas.List.FromFn.{length-range_with_len, get_or-range_with_len}
use Rattle.std.proofs.lemmas.List.Elements.{Contains-get_or}
use Rattle.std.proofs.lemmas.List.Kept.{AllPairs-filter}
use Rattle.std.proofs.lemmas.List.Sorted.{Contains-permutation, IsPermutation-sym, sorted_far, ranks_by, length_permutation}
use Rattle.std.proofs.lemmas.Map.Keys.{IsDistinct-IsPermutation, IsDistinct-from_apart, apart_from_distinct}
use Rattle.stale_model.specs.declared.Cluster.{Cluster}
use Rattle.stale_model.specs.Chains.{is_later}
use Rattle.stale_model.specs.Zones.{reads_start}
use Rattle.stale_model.specs.Orders.{StandsAt}
use Rattle.stale_model.specs.Clusters.{writes_of, WriteRecordsDiffer}
use Rattle.stale_model.proofs.Places.{contains_at, write_stands}
use Rattle.stale_model.proofs.Sorted.{flips}
use Rattle.stale_model.proofs.Members.{kept_is_there, kept_passes, kept_from, mapped_from, before_mapped}
use Rattle.lbt_epochs.specs.Lists.{Lists, left, cluster_at, no_cluster, ArePlacesBy}
use Rattle.lbt_epochs.specs.Steps.{clusters_left, IsReady}
use Rattle.lbt_epochs.proofs.Filters.{filter_no_longer}
use Rattle.lbt_epochs.proofs.LatestRanked.{IsRanked}

-- ---- the places of clusters

in_range : (n at : ℕ) → Contains (range_with_len 0 n) at → at < n
in_range n at (k, l, e) =
    let long = length-range_with_len 0 n in
    let is = get_or-range_with_len 0 n k at (omega arith) in
    omega arith

range_has : (n at : ℕ) → at < n → Contains (range_with_len 0 n) at
range_has n at l =
    let long = length-range_with_len 0 n in
    let is = get_or-range_with_len 0 n at at l in
    (at, omega arith, omega arith)

-- a place is one of the clusters
pub place_within : {clusters : List Cluster} {passes : Cluster → Bool} {order : Cluster → Cluster → Ordering} {places : List ℕ} → ArePlacesBy clusters passes order places
    → (at : ℕ) → Contains places at → at < length clusters
place_within {clusters} {passes} {order} {places} are at c =
    let back = Contains-permutation places _ at (IsPermutation-sym _ _ are.each_once) c in
    in_range (length clusters) at (kept_is_there (λ at. passes (cluster_at clusters at)) (range_with_len 0 (length clusters)) at back)

-- each place whose cluster passes is there
pub place_there : {clusters : List Cluster} {passes : Cluster → Bool} {order : Cluster → Cluster → Ordering} {places : List ℕ} → ArePlacesBy clusters passes order places
    → (at : ℕ) → at < length clusters → passes (cluster_at clusters at) ≡ true → Contains places at
place_there {clusters} {passes} {order} {places} are at l p =
    Contains-permutation _ places at are.each_once (kept_from (λ at. passes (cluster_at clusters at)) (range_with_len 0 (length clusters)) at (range_has (length clusters) at l) p)

range_rises : (n : ℕ) → AllPairs (λ x y. x < y) (range_with_len 0 n)
range_rises n i j d l m =
    let long = length-range_with_len 0 n in
    let p = get_or-range_with_len 0 n i d (omega arith) in
    let q = get_or-range_with_len 0 n j d (omega arith) in
    omega arith

-- no place is there twice
pub places_distinct : {clusters : List Cluster} {passes : Cluster → Bool} {order : Cluster → Cluster → Ordering} {places : List ℕ} → ArePlacesBy clusters passes order places
    → IsDistinct eqb places
places_distinct {clusters} {passes} {order} {places} are =
    let all = filter (λ at. passes (cluster_at clusters at)) (range_with_len 0 (length clusters)) in
    let rise = AllPairs-filter (λ x y. x < y) (λ at. passes (cluster_at clusters at)) (range_with_len 0 (length clusters)) (range_rises (length clusters)) in
    IsDistinct-IsPermutation eqb flips all places are.each_once
    (IsDistinct-from_apart eqb all (λ i j d less within. ne_eqb (get_or all i d) (get_or all j d) (λ e. let r = rise i j d less within in omega arith)))

-- the write at a place
write_at : (clusters : List Cluster) (at : ℕ) → at < length clusters → StandsAt (writes_of clusters) at (cluster_at clusters at).write
write_at clusters at l = write_stands clusters at (cluster_at clusters at) (slice_get-get_or clusters at no_cluster l)

-- clusters of one write stand at one place
pub writes_tell : (clusters : List Cluster) → WriteRecordsDiffer clusters → (i j : ℕ) → i < length clusters → j < length clusters
    → (cluster_at clusters i).write ≡ (cluster_at clusters j).write → i ≡ j
writes_tell clusters differ i j l m e =
    differ i j (cluster_at clusters i).write (write_at clusters i l) (write_at clusters j m ∙ ap Some (sym e))

-- ---- the places in order

-- by falling start, then by rising record of the write
abbrev start_order : (Cluster → ℕ) → Cluster → Cluster → Ordering
start_order start = then_cmp (flip_args (on start nat_cmp)) (on (λ c. c.write) nat_cmp)

start_order_total : (start : Cluster → ℕ) → IsTotalOrder (start_order start)
start_order_total start = then_total (back_total (on_total start nat_cmp_total)) (on_total (λ c. c.write) nat_cmp_total)

later_nat : (s t w v : ℕ) → is_lt (ordering_then (nat_cmp s t) (nat_cmp v w)) ≡ false → (w ≡ v → ⊥) → (ltb t s || (eqb s t && ltb w v)) ≡ true
later_nat s t w v h n = grind (arith, nat_tests)

-- in this order each is later than those after it
places_ranked : (start : Cluster → ℕ) (clusters : List Cluster) (passes : Cluster → Bool) (places : List ℕ) → WriteRecordsDiffer clusters
    → ArePlacesBy clusters passes (start_order start) places → AllPairs (λ i j. is_later start (cluster_at clusters i) (cluster_at clusters j) ≡ true) places
places_ranked start clusters passes places differ are i j d less within =
    let x = get_or places i d in
    let y = get_or places j d in
    let far = sorted_far (λ a b. is_lt (on (cluster_at clusters) (start_order start) a b)) (ranks_by (start_order_total start) (cluster_at clusters)) places are.sorted i j d (omega arith) within in
    let apart = apart_from_distinct eqb places i j d (places_distinct are) less within in
    let lx = place_within are x (Contains-get_or places i d (omega arith)) in
    let ly = place_within are y (Contains-get_or places j d within) in
    later_nat (start (cluster_at clusters x)) (start (cluster_at clusters y)) (cluster_at clusters x).write (cluster_at clusters y).write far
    (λ e. eqb-false x y apart (writes_tell clusters differ x y lx ly e))

mapped_pairs : {X Y : Type 0} (R : Y → Y → Type 0) (f : X → Y) (xs : List X) → AllPairs (λ a b. R (f a) (f b)) xs → AllPairs R (map f xs)
mapped_pairs R f [] h i j d less within = absurd (omega arith)
mapped_pairs R f (x ∷ xs) h i j d less within =
    let n = length-map (x ∷ xs) f in
    let p = get_or-map f (x ∷ xs) i x d (omega arith) in
    let q = get_or-map f (x ∷ xs) j x d (omega arith) in
    rw (p, q) (h i j x less (omega arith))

-- ---- those that are left

-- whether a place is not placed
abbrev pub is_left : List ℕ → ℕ → Bool
is_left placed at = not (list_any (λ other. eqb other at) placed)

module _ (clusters : List Cluster) (lists : Lists) (ready : IsReady clusters lists) where
  pub left_within : (at : ℕ) → Contains (left lists.placed lists.candidates) at → at < length clusters
  left_within at c = place_within ready.lists_are.candidates at (kept_is_there (is_left lists.placed) lists.candidates at c)

  -- so is what stands in any order
  pub stands_within : {passes : Cluster → Bool} {order : Cluster → Cluster → Ordering} {places : List ℕ} → ArePlacesBy clusters passes order places
      → (k at : ℕ) → Some at ≡ slice_get (left lists.placed places) k → at < length clusters
  stands_within {places = places} are k at e =
      place_within are at (kept_is_there (is_left lists.placed) places at (contains_at (left lists.placed places) k at (sym e)))

  -- no more are left than there are clusters
  pub left_no_more : length (left lists.placed lists.candidates) ≤ length clusters
  left_no_more =
      let all = range_with_len 0 (length clusters) in
      let a = filter_no_longer (is_left lists.placed) lists.candidates in
      let b = length_permutation (filter (λ at. true) all) lists.candidates ready.lists_are.candidates.each_once in
      let c = filter_no_longer (λ at. true) all in
      let e = length-range_with_len 0 (length clusters) in
      omega arith

  -- what is left in another order is left
  left_too : {passes : Cluster → Bool} {order : Cluster → Cluster → Ordering} {places : List ℕ} → ArePlacesBy clusters passes order places
      → (at : ℕ) → Contains (left lists.placed places) at → Contains (left lists.placed lists.candidates) at
  left_too {passes} {order} {places} are at c =
      kept_from (is_left lists.placed) lists.candidates at (place_there ready.lists_are.candidates at (place_within are at (kept_is_there (is_left lists.placed) places at c)) refl)
      (kept_passes (is_left lists.placed) places at c)

  -- and the other way round, where the cluster passes
  left_there : {passes : Cluster → Bool} {order : Cluster → Cluster → Ordering} {places : List ℕ} → ArePlacesBy clusters passes order places
      → (at : ℕ) → Contains (left lists.placed lists.candidates) at → passes (cluster_at clusters at) ≡ true → Contains (left lists.placed places) at
  left_there {passes} {order} {places} are at c p =
      kept_from (is_left lists.placed) places at (place_there are at (left_within at c) p) (kept_passes (is_left lists.placed) lists.candidates at c)

  pub reads_left_too : (at : ℕ) → Contains (left lists.placed lists.reads) at → Contains (left lists.placed lists.candidates) at
  reads_left_too at c = left_too ready.lists_are.reads at c

  -- the clusters that are left, in an order of starts
  left_ranked : (start : Cluster → ℕ) (passes : Cluster → Bool) (places : List ℕ) → ArePlacesBy clusters passes (start_order start) places
      → ((c : Cluster) → 0 < start c → passes c ≡ true) → IsRanked start (clusters_left clusters lists) (map (cluster_at clusters) (left lists.placed places))
  left_ranked start passes places are pass = record {
    known = λ y c.
        let (at, there, e) = before_mapped (cluster_at clusters) (left lists.placed places) y c in
        rw e at (mapped_from (cluster_at clusters) (left lists.placed lists.candidates) at (left_too are at there));
    whole = λ y c l.
        let (at, there, e) = before_mapped (cluster_at clusters) (left lists.placed lists.candidates) y c in
        rw e at (mapped_from (cluster_at clusters) (left lists.placed places) at (left_there are at there (rw e (pass y l))));
    ranked = mapped_pairs (λ a b. is_later start a b ≡ true) (cluster_at clusters) (left lists.placed places)
        (AllPairs-filter (λ i j. is_later start (cluster_at clusters i) (cluster_at clusters j) ≡ true) (is_left lists.placed) places (places_ranked start clusters passes places ready.differ are));
    differ = λ a b ca cb e.
        let (i, there, ei) = before_mapped (cluster_at clusters) (left lists.placed lists.candidates) a ca in
        let (j, there_too, ej) = before_mapped (cluster_at clusters) (left lists.placed lists.candidates) b cb in
        let same : i ≡ j = writes_tell clusters ready.differ i j (left_within i there) (left_within j there_too) (rw (ei, ej) e) in
        sym ei ∙ ap (cluster_at clusters) same ∙ ej;
  }

  some_where_late : (c : Cluster) → 0 < reads_start c → is_some c.s ≡ true
  some_where_late c l = grind arith

  pub writes_ranked : IsRanked (λ c. c.w) (clusters_left clusters lists) (map (cluster_at clusters) (left lists.placed lists.writes))
  writes_ranked = left_ranked (λ c. c.w) (λ c. true) lists.writes ready.lists_are.writes (λ c l. refl)

  pub reads_ranked : IsRanked reads_start (clusters_left clusters lists) (map (cluster_at clusters) (left lists.placed lists.reads))
  reads_ranked = left_ranked reads_start (λ c. is_some c.s) lists.reads ready.lists_are.reads some_where_late
