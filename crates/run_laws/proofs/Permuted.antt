-- Lists in another order, and what is made of them.
use Rattle.std.proofs.Common.{ℕ, zero, suc, ◌<◌, List, [], ◌∷◌, ◌++◌, length, get_or, set, swap, arith, eqb, append_assoc}
use Rattle.std.specs.List.{flat_map}
use Rattle.std.specs.List.Sorted.{IsPermutation}
use Rattle.std.proofs.lemmas.Map.Keys.{IsDistinct-IsPermutation}
use Rattle.std.proofs.lemmas.List.Sorted.{IsPermutation-refl, IsPermutation-keeps, IsPermutation-trans, IsPermutation-append_left, IsPermutation-append_right, IsPermutation-append_comm}
use Rattle.stale_model.specs.Orders.{IsWithoutRepeats}
use Rattle.stale_model.proofs.Sorted.{flips, distinct_from_no_repeats, no_repeats_from_distinct}

-- a relation of each list to itself, that goes on from list to list, stays under a first element, and holds over an exchange of the first two, is one to any other order
module _ {X : Type 0} (R : List X → List X → Type 0) (same : (xs : List X) → R xs xs) (under : (x : X) (xs ys : List X) → R xs ys → R (x ∷ xs) (x ∷ ys))
    (turn : (x y : X) (xs : List X) → R (x ∷ y ∷ xs) (y ∷ x ∷ xs)) (goes_on : (xs ys zs : List X) → R xs ys → R ys zs → R xs zs) where
  to_first : (xs : List X) (j : ℕ) (x d : X) → j < length xs → R (x ∷ xs) (get_or xs j d ∷ set xs j x)
  to_first [] j x d low = absurd (omega arith)
  to_first (y ∷ xs) zero x d low = turn x y xs
  to_first (y ∷ xs) (suc j) x d low =
      goes_on (x ∷ y ∷ xs) (y ∷ x ∷ xs) (get_or xs j d ∷ y ∷ set xs j x) (turn x y xs)
      (goes_on (y ∷ x ∷ xs) (y ∷ get_or xs j d ∷ set xs j x) (get_or xs j d ∷ y ∷ set xs j x) (under y (x ∷ xs) (get_or xs j d ∷ set xs j x) (to_first xs j x d (omega arith))) (turn y (get_or xs j d) (set xs j x)))

  exchanged : (xs : List X) (i j : ℕ) (d : X) → i < length xs → j < length xs → R xs (set (set xs i (get_or xs j d)) j (get_or xs i d))
  exchanged [] i j d low high = absurd (omega arith)
  exchanged (x ∷ xs) zero zero d low high = same (x ∷ xs)
  exchanged (x ∷ xs) zero (suc j) d low high = to_first xs j x d (omega arith)
  exchanged (x ∷ xs) (suc i) zero d low high = to_first xs i x d (omega arith)
  exchanged (x ∷ xs) (suc i) (suc j) d low high = under x xs (set (set xs i (get_or xs j d)) j (get_or xs i d)) (exchanged xs i j d (omega arith) (omega arith))

  swapped : (xs : List X) (i j : ℕ) → i < length xs → j < length xs → R xs (swap xs i j)
  swapped [] i j low high = same []
  swapped (x ∷ xs) i j low high = exchanged (x ∷ xs) i j x low high

  along : (xs ys : List X) → IsPermutation xs ys → R xs ys
  along xs = IsPermutation-keeps xs (R xs) (same xs) (λ l i j low high h. goes_on xs l (swap l i j) h (swapped l i j low high))

-- two orders of a list are flattened to two orders of one list
pub permuted_flattened : {X Y : Type 0} (f : X → List Y) (xs ys : List X) → IsPermutation xs ys → IsPermutation (flat_map f xs) (flat_map f ys)
permuted_flattened f = along (λ xs ys. IsPermutation (flat_map f xs) (flat_map f ys))
    (λ xs. IsPermutation-refl (flat_map f xs))
    (λ x xs ys h. IsPermutation-append_right (f x) (flat_map f xs) (flat_map f ys) h)
    (λ x y xs. rw (← append_assoc (f x), ← append_assoc (f y)) (IsPermutation-append_left (flat_map f xs) (f x ++ f y) (f y ++ f x) (IsPermutation-append_comm (f x) (f y))))
    (λ xs ys zs. IsPermutation-trans (flat_map f xs) (flat_map f ys) (flat_map f zs))

-- numbers without repeats have none in any other order
pub permuted_numbers : (xs ys : List ℕ) → IsPermutation xs ys → IsWithoutRepeats xs → IsWithoutRepeats ys
permuted_numbers xs ys p once = no_repeats_from_distinct ys (IsDistinct-IsPermutation eqb flips xs ys p (distinct_from_no_repeats xs once))
