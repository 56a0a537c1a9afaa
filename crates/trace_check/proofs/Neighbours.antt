-- Lists whose neighbours pass a test, and numbers without repeats.
use Rattle.std.proofs.Common.{◌≡◌, ℕ, ◌+◌, ◌<◌, ◌↔◌, Bool, true, false, List, length, get_or, map, refl, sym, ◌∙◌, arith, eqb, true≢false}
use Rattle.std.specs.Prelude.{Some, slice_get, IsTrue}
use Rattle.std.specs.List.{IsAllAdjacentAnswer}
use Rattle.std.specs.List.Sorted.{IsPermutation, IsSorted, IsStrictlyIncreasing}
use Rattle.std.specs.Ordering.{nat_cmp}
use Rattle.std.proofs.lemmas.List.{get_or-map, length-map}
use Rattle.std.proofs.lemmas.List.Sorted.{IsPermutation-sym, IsNonDecreasingBy-from_sort}
use Rattle.std.proofs.lemmas.Map.Keys.{IsDistinct-IsPermutation, IsStrictlyIncreasing-from_distinct}
use Rattle.std.proofs.lemmas.Option.{slice_get_within, slice_get-get_or, get_or_from_slice_get}
use Rattle.stale_model.specs.Orders.{IsWithoutRepeats}
use Rattle.stale_model.proofs.Sorted.{distinct_from_no_repeats, no_repeats_from_distinct, rising_no_repeats, flips}
use Rattle.stale_model.proofs.Places.{something_at}

module _ {X : Type 0} (e : X → X → Bool) (R : X → X → Type 0) (holds : (x y : X) → e x y ≡ true → R x y) (passes : (x y : X) → R x y → e x y ≡ true) where
  -- a test of all neighbours tells whether each element stands so to the next
  pub neighbours_tell : (xs : List X) (r : Bool) → IsAllAdjacentAnswer (λ x y b. b ≡ e x y) xs r
      → IsTrue r ↔ ((k : ℕ) (a b : X) → slice_get xs k ≡ Some a → slice_get xs (k + 1) ≡ Some b → R a b)
  neighbours_tell xs true answer = (
    λ t k a b ata atb.
        let step : true ≡ e (get_or xs k a) (get_or xs (k + 1) a) = answer k a (slice_get_within xs (k + 1) b atb) in
        holds a b (sym (rw (get_or_from_slice_get xs k a a ata, get_or_from_slice_get xs (k + 1) b a atb) at step)),
    λ h. refl,
  )
  neighbours_tell xs false answer = (
    λ t. absurd (true≢false (sym t)),
    λ h.
        let (k, low, fails) = answer in
        let (a, ata) = something_at xs k (omega arith) in
        let (b, atb) = something_at xs (k + 1) low in
        let step : false ≡ e (get_or xs k a) (get_or xs (k + 1) a) = fails a in
        let step2 : false ≡ e a b = rw (get_or_from_slice_get xs k a a ata, get_or_from_slice_get xs (k + 1) b a atb) at step in
        absurd (true≢false (sym (passes a b (h k a b ata atb)) ∙ sym step2)),
  )

module _ {X : Type 0} (f : X → ℕ) where
  -- numbers rise where each is less than the next
  pub rises_by_next : (xs : List X) → ((k : ℕ) (a b : X) → slice_get xs k ≡ Some a → slice_get xs (k + 1) ≡ Some b → f a < f b) → IsStrictlyIncreasing (map f xs)
  rises_by_next xs h k low =
      let long : length (map f xs) ≡ length xs = length-map xs f in
      let (a, ata) = something_at xs k (omega arith) in
      let (b, atb) = something_at xs (k + 1) (omega arith) in
      let first : get_or (map f xs) k 0 ≡ f (get_or xs k a) = get_or-map f xs k a 0 (omega arith) in
      let second : get_or (map f xs) (k + 1) 0 ≡ f (get_or xs (k + 1) a) = get_or-map f xs (k + 1) a 0 (omega arith) in
      rw (first, second, get_or_from_slice_get xs k a a ata, get_or_from_slice_get xs (k + 1) b a atb) (h k a b ata atb)

  pub next_by_rises : (xs : List X) → IsStrictlyIncreasing (map f xs) → (k : ℕ) (a b : X) → slice_get xs k ≡ Some a → slice_get xs (k + 1) ≡ Some b → f a < f b
  next_by_rises xs h k a b ata atb =
      let high = slice_get_within xs (k + 1) b atb in
      let long : length (map f xs) ≡ length xs = length-map xs f in
      let step : get_or (map f xs) k 0 < get_or (map f xs) (k + 1) 0 = h k (omega arith) in
      let first : get_or (map f xs) k 0 ≡ f (get_or xs k a) = get_or-map f xs k a 0 (omega arith) in
      let second : get_or (map f xs) (k + 1) 0 ≡ f (get_or xs (k + 1) a) = get_or-map f xs (k + 1) a 0 high in
      rw (first, second, get_or_from_slice_get xs k a a ata, get_or_from_slice_get xs (k + 1) b a atb) at step

module _ (xs sorted : List ℕ) (order : IsPermutation xs sorted) where
  -- numbers are without repeats where those in order rise
  pub once_by_next : ((k a b : ℕ) → slice_get sorted k ≡ Some a → slice_get sorted (k + 1) ≡ Some b → a < b) → IsWithoutRepeats xs
  once_by_next h =
      let rises : IsStrictlyIncreasing sorted = λ k low.
      h k (get_or sorted k 0) (get_or sorted (k + 1) 0) (slice_get-get_or sorted k 0 (omega arith)) (slice_get-get_or sorted (k + 1) 0 low) in
      no_repeats_from_distinct xs (IsDistinct-IsPermutation eqb flips sorted xs (IsPermutation-sym xs sorted order) (distinct_from_no_repeats sorted (rising_no_repeats sorted rises)))

  -- and rise only there
  pub next_by_once : IsSorted nat_cmp sorted → IsWithoutRepeats xs → (k a b : ℕ) → slice_get sorted k ≡ Some a → slice_get sorted (k + 1) ≡ Some b → a < b
  next_by_once up once k a b ata atb =
      let apart = IsDistinct-IsPermutation eqb flips xs sorted order (distinct_from_no_repeats xs once) in
      let rises = IsStrictlyIncreasing-from_distinct sorted (IsNonDecreasingBy-from_sort (λ (n : ℕ). n) sorted up) apart in
      let step : get_or sorted k 0 < get_or sorted (k + 1) 0 = rises k (slice_get_within sorted (k + 1) b atb) in
      rw (get_or_from_slice_get sorted k a 0 ata, get_or_from_slice_get sorted (k + 1) b 0 atb) at step
