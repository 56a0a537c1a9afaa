-- Sorted places of clusters: none stands twice, and each is below their number.
use Rattle.std.proofs.Common.{◌≡◌, ℕ, zero, suc, ◌+◌, ◌<◌, ◌≤◌, Bool, true, false, List, [], ◌∷◌, length, eqb, refl, sym, subst, ◌∙◌, inl, inr, arith}
use Rattle.std.specs.Prelude.{◌==◌, filter}
use Rattle.std.specs.List.{range_with_len, IsDistinct, AllByRecursion}
use Rattle.std.specs.List.Sorted.{IsPermutation}
use Rattle.std.specs.declared.cmp.Ordering.{Ordering}
use Rattle.std.proofs.lemmas.Bool.{cases_Bool, or_parts, or_from, eqb-true, eq-eqb, eqb-false, ne_eqb}
use Rattle.std.proofs.lemmas.List.FromFn.{length-range_with_len}
use Rattle.std.proofs.lemmas.List.Sorted.{list_any-IsPermutation, length_permutation}
use Rattle.std.proofs.lemmas.Map.Keys.{IsDistinct-IsPermutation}
use Rattle.stale_model.specs.declared.Cluster.{Cluster}
use Rattle.lbt_epochs.specs.Lists.{cluster_at, ArePlacesBy}
use Rattle.lbt_epochs.specs.Links.{Links, has, AreApart, IsRing, AreLeft, AreKept}
use Rattle.lbt_epochs.proofs.Filters.{filter_all}
use Rattle.lbt_epochs.proofs.LinksHas.{has_cases, lacks_front, lacks_behind, lacks_cons}
use Rattle.lbt_epochs.proofs.LinksMade.{range_below}

-- whether the second is the first
abbrev is : ℕ → ℕ → Bool
is x y = eqb y x

is_flips : (x y : ℕ) → is x y ≡ is y x
is_flips x y = elim (cases_Bool (is x y)) [
  | inl e ↦ e ∙ sym (eq-eqb x y (sym (eqb-true y x e)))
  | inr e ↦ e ∙ sym (ne_eqb x y (λ s. eqb-false y x e (sym s)))
]

none_from_lacks : (x : ℕ) (ys : List ℕ) → has ys x ≡ false → AllByRecursion (λ y. is x y ≡ false) ys
none_from_lacks x [] h = tt
none_from_lacks x (y ∷ ys) h = ((or_parts _ _ h).0, none_from_lacks x ys (or_parts _ _ h).1)

lacks_from_none : (x : ℕ) (ys : List ℕ) → AllByRecursion (λ y. is x y ≡ false) ys → has ys x ≡ false
lacks_from_none x [] h = refl
lacks_from_none x (y ∷ ys) h = or_from _ _ h.0 (lacks_from_none x ys h.1)

distinct_from_apart : (xs : List ℕ) → AreApart xs → IsDistinct is xs
unfolding IsDistinct
distinct_from_apart [] a = tt
distinct_from_apart (x ∷ xs) a = (none_from_lacks x xs a.0, distinct_from_apart xs a.1)

apart_from_distinct : (xs : List ℕ) → IsDistinct is xs → AreApart xs
unfolding IsDistinct
apart_from_distinct [] a = tt
apart_from_distinct (x ∷ xs) a = (lacks_from_none x xs a.0, apart_from_distinct xs a.1)

AreApart-IsPermutation : (xs ys : List ℕ) → IsPermutation xs ys → AreApart xs → AreApart ys
AreApart-IsPermutation xs ys p a = apart_from_distinct ys (IsDistinct-IsPermutation is is_flips xs ys p (distinct_from_apart xs a))

range_above : (a n at : ℕ) → has (range_with_len a n) at ≡ true → a ≤ at
range_above a zero at h = absurd (cc)
range_above a (suc n) at h = elim (has_cases a (range_with_len (a + 1) n) at h) [
  | inl e ↦ omega arith
  | inr r ↦ let l = range_above (a + 1) n at r in omega arith
]

range_apart : (a n : ℕ) → AreApart (range_with_len a n)
range_apart a zero = tt
range_apart a (suc n) =
    let out : has (range_with_len (a + 1) n) a ≡ false =
    elim (cases_Bool (has (range_with_len (a + 1) n) a)) [ inl h ↦ (let l = range_above (a + 1) n a h in absurd (omega arith)) | inr h ↦ h ] in
    (out, range_apart (a + 1) n)

lacks_filter : (p : ℕ → Bool) (xs : List ℕ) (x : ℕ) → has xs x ≡ false → has (filter p xs) x ≡ false
lacks_filter p [] x h = refl
lacks_filter p (y ∷ ys) x h = elim (cases_Bool (p y)) [
  | inl t ↦ rw t (lacks_cons y (filter p ys) x (lacks_front y ys x h) (lacks_filter p ys x (lacks_behind y ys x h)))
  | inr t ↦ rw t (lacks_filter p ys x (lacks_behind y ys x h))
]

AreApart-filter : (p : ℕ → Bool) (xs : List ℕ) → AreApart xs → AreApart (filter p xs)
AreApart-filter p [] a = tt
AreApart-filter p (y ∷ ys) a = elim (cases_Bool (p y)) [
  | inl t ↦ rw t (lacks_filter p ys y a.0, AreApart-filter p ys a.1)
  | inr t ↦ rw t (AreApart-filter p ys a.1)
]

has_from_filter : (p : ℕ → Bool) (xs : List ℕ) (x : ℕ) → has (filter p xs) x ≡ true → has xs x ≡ true
has_from_filter p xs x h = elim (cases_Bool (has xs x)) [
  | inl t ↦ t
  | inr n ↦ absurd (cc (lacks_filter p xs x n))
]

-- sorted places stand once each
pub places_apart : (clusters : List Cluster) (passes : Cluster → Bool) (order : Cluster → Cluster → Ordering) (places : List ℕ)
    → ArePlacesBy clusters passes order places → AreApart places
places_apart clusters passes order places a =
    AreApart-IsPermutation _ places a.each_once
    (AreApart-filter (λ at. passes (cluster_at clusters at)) (range_with_len 0 (length clusters)) (range_apart 0 (length clusters)))

-- sorted places are below the number of clusters
pub places_below : (clusters : List Cluster) (passes : Cluster → Bool) (order : Cluster → Cluster → Ordering) (places : List ℕ)
    → ArePlacesBy clusters passes order places
    → (at : ℕ) → has places at ≡ true → at < length clusters
places_below clusters passes order places a at h =
    let e : has _ at ≡ has places at = list_any-IsPermutation (λ other. other == at) _ places a.each_once in
    let l = range_below 0 (length clusters) at
    (has_from_filter (λ x. passes (cluster_at clusters x)) (range_with_len 0 (length clusters)) at (e ∙ h)) in
    omega arith

permuted : (clusters : List Cluster) (sorts : Cluster → Cluster → Ordering) (places : List ℕ) → ArePlacesBy clusters (λ c. true) sorts places
    → IsPermutation (range_with_len 0 (length clusters)) places
permuted clusters sorts places a = let Q : List ℕ → Type 0 = λ l. IsPermutation l places in subst Q
    (filter_all (range_with_len 0 (length clusters))) a.each_once

-- so many places as clusters
pub places_number : (clusters : List Cluster) (sorts : Cluster → Cluster → Ordering) (places : List ℕ) → ArePlacesBy clusters (λ c. true) sorts places
    → length places ≡ length clusters
places_number clusters sorts places a = length_permutation _ places (permuted clusters sorts places a) ∙ length-range_with_len 0 (length clusters)

-- the links of an order of which none is placed
pub left_none : (clusters : List Cluster) (sorts : Cluster → Cluster → Ordering) (places order : List ℕ) (links : Links)
    → ArePlacesBy clusters (λ c. true) sorts places
    → IsRing (length clusters) (range_with_len 0 (length clusters)) order links → AreLeft places order [] links
left_none clusters sorts places order links a r =
    let n = length clusters in
    let p = permuted clusters sorts places a in
    let l = places_number clusters sorts places a in
    let known : (at : ℕ) → has places at ≡ true → has (range_with_len 0 n) at ≡ true = λ at h. list_any-IsPermutation
    (λ other. other == at) _ places p ∙ h in
    let P : ℕ → Type 0 = λ end. IsRing end places order links in
    record {
      whole = links;
      ring = subst P (sym l) record {
        next_nodes = r.next_nodes;
        previous_nodes = r.previous_nodes;
        apart = r.apart;
        order_below = r.order_below;
        places_below = λ at h. r.places_below at (known at h);
        chain = r.chain;
        alone = λ at h lacks. r.alone at (known at h) lacks;
      };
      taken = refl;
    }

-- nothing is placed of orders that were just linked
pub kept_none : (clusters : List Cluster) (sorts : Cluster → Cluster → Ordering) (candidates writes reads : List ℕ) (room : ℕ) (a b c : Links)
    → ArePlacesBy clusters (λ c. true) sorts candidates
    → IsRing (length clusters) (range_with_len 0 (length clusters)) candidates a
    → IsRing (length clusters) (range_with_len 0 (length clusters)) writes b
    → IsRing (length clusters) (range_with_len 0 (length clusters)) reads c → length clusters ≤ room
    → AreKept (record { candidates = candidates; writes = writes; reads = reads; placed = [] }) room a b c
kept_none clusters sorts candidates writes reads room a b c p first second third enough =
    let l = left_none clusters sorts candidates candidates a p first in
    record {
      taken = tt;
      enough = (let n = places_number clusters sorts candidates p in omega arith);
      candidates = l;
      writes = left_none clusters sorts candidates writes b p second;
      reads = left_none clusters sorts candidates reads c p third;
    }
