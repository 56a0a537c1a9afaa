-- Lists whose elements rise by a number.
use Rattle.std.proofs.Common.{◌≡◌, ℕ, ◌+◌, ◌<◌, Bool, List, [], ◌∷◌, get_or, map, filter, sym, arith, nat_cmp, Equal}
use Rattle.std.specs.Prelude.{All, AllPairs, Contains, Some, slice_get}
use Rattle.std.specs.List.Sorted.{IsStrictlyIncreasing, IsNonDecreasingBy}
use Rattle.std.specs.Ordering.{on}
use Rattle.std.proofs.lemmas.Cmp.{nat_cmp_total, on_total, ranked}
use Rattle.std.proofs.lemmas.List.{length-map, get_or-map}
use Rattle.std.proofs.lemmas.List.Kept.{AllPairs-filter, AllPairs-from_increasing}
use Rattle.std.proofs.lemmas.Map.Keys.{IsStrictlyIncreasing-from_distinct}
use Rattle.std.proofs.lemmas.Option.{slice_get-get_or}
use Rattle.stale_model.specs.Orders.{IsWithoutRepeats}
use Rattle.stale_model.proofs.Sorted.{sorted_one, distinct_from_no_repeats, no_repeats_from_map, one_by_number, rising_no_repeats, rising_sorted}

module _ {X : Type 0} (f : X → ℕ) where
  all_pairs : (xs : List X) → IsStrictlyIncreasing (map f xs) → AllPairs (λ x y. f x < f y) xs
  all_pairs xs up i j d low high =
      let long = length-map xs f in
      let far = AllPairs-from_increasing (map f xs) up i j 0 low (omega arith) in
      let first = get_or-map f xs i d 0 (omega arith) in
      let second = get_or-map f xs j d 0 high in
      omega arith

  from_pairs : (xs : List X) → AllPairs (λ x y. f x < f y) xs → IsStrictlyIncreasing (map f xs)
  from_pairs [] up k high = absurd (omega arith)
  from_pairs (x ∷ xs) up k high =
      let long = length-map (x ∷ xs) f in
      let step = up k (k + 1) x (omega arith) (omega arith) in
      let first = get_or-map f (x ∷ xs) k x 0 (omega arith) in
      let second = get_or-map f (x ∷ xs) (k + 1) x 0 (omega arith) in
      omega arith

  -- of a list that rises any part that is kept rises
  pub rising_kept : (keeps : X → Bool) (xs : List X) → IsStrictlyIncreasing (map f xs) → IsStrictlyIncreasing (map f (filter keeps xs))
  rising_kept keeps xs up = from_pairs (filter keeps xs) (AllPairs-filter (λ x y. f x < f y) keeps xs (all_pairs xs up))

  -- two lists that rise and have the same elements are one
  pub rising_one : (xs ys : List X) → IsStrictlyIncreasing (map f xs) → IsStrictlyIncreasing (map f ys) → ((x : X) → Contains xs x → Contains ys x) → ((x : X) → Contains ys x → Contains xs x) → xs ≡ ys
  rising_one xs ys upx upy there back =
      let oncex = rising_no_repeats (map f xs) upx in
      let oncey = rising_no_repeats (map f ys) upy in
      sorted_one (on f nat_cmp) (on_total f nat_cmp_total) xs ys (no_repeats_from_map f xs oncex) (no_repeats_from_map f ys oncey) there back
      (λ x y cx cy e. one_by_number f xs x y oncex cx cy (ranked (f x) (f y) Equal (sym e))) (rising_sorted f xs upx) (rising_sorted f ys upy)

  -- where the numbers don't fall, and none stands twice, they rise
  pub rising_from_apart : (xs : List X) → IsNonDecreasingBy f xs → IsWithoutRepeats (map f xs) → IsStrictlyIncreasing (map f xs)
  rising_from_apart [] up once k high = absurd (omega arith)
  rising_from_apart (x ∷ xs) up once k high = IsStrictlyIncreasing-from_distinct (map f (x ∷ xs)) (λ i j d low high.
      let long = length-map (x ∷ xs) f in
      let far = up i j x low (omega arith) in
      let first = get_or-map f (x ∷ xs) i x d (omega arith) in
      let second = get_or-map f (x ∷ xs) j x d (omega arith) in
      omega arith) (distinct_from_no_repeats (map f (x ∷ xs)) once) k high

  -- where each ends before the next begins, the beginnings rise
  pub rising_in_turn : (g : X → ℕ) (xs : List X) → All (λ x. f x < g x) xs
      → ((k : ℕ) (a b : X) → slice_get xs k ≡ Some a → slice_get xs (k + 1) ≡ Some b → g a < f b) → IsStrictlyIncreasing (map f xs)
  rising_in_turn g [] ordered turns k high = absurd (omega arith)
  rising_in_turn g (x ∷ xs) ordered turns k high =
      let long = length-map (x ∷ xs) f in
      let ends = ordered k x (omega arith) in
      let next = turns k (get_or (x ∷ xs) k x) (get_or (x ∷ xs) (k + 1) x) (slice_get-get_or (x ∷ xs) k x (omega arith)) (slice_get-get_or (x ∷ xs) (k + 1) x (omega arith)) in
      let first = get_or-map f (x ∷ xs) k x 0 (omega arith) in
      let second = get_or-map f (x ∷ xs) (k + 1) x 0 (omega arith) in
      omega arith
