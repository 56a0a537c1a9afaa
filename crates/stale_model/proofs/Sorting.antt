-- Each list has a sorted order.
use Rattle.std.proofs.Common.{◌≡◌, zero, suc, ◌+◌, true, false, cond, List, [], ◌∷◌, refl, inl, inr, arith}
use Rattle.std.specs.List.Sorted.{IsPermutation, IsSorted}
use Rattle.std.specs.declared.cmp.Ordering.{Ordering}
use Rattle.std.specs.declared.cmp.Ordering.TheVariants.{Less, Equal, Greater}
use Rattle.std.specs.Ordering.{is_lt, ordering_reverse}
use Rattle.std.specs.Cmp.{IsTotalOrder}
use Rattle.std.proofs.lemmas.Bool.{cases_Bool, both_ways}
use Rattle.std.proofs.lemmas.List.Sorted.{IsPermutation-refl, IsPermutation-cons, IsPermutation-trans, IsPermutation-insert}

not_less_back : (o p : Ordering) → o ≡ ordering_reverse p → is_lt p ≡ true → is_lt o ≡ false
not_less_back o Less e t = rw e refl
not_less_back o Equal e t = absurd (both_ways false refl t)
not_less_back o Greater e t = absurd (both_ways false refl t)

module _ {X : Type 0} (order : X → X → Ordering) (total : IsTotalOrder order) where
  -- x before the first that is not less than it
  abbrev put_in : X → List X → List X
  put_in x [] = x ∷ []
  put_in x (y ∷ ys) = cond (is_lt (order y x)) (y ∷ put_in x ys) (x ∷ y ∷ ys)

  put_in_permutes : (x : X) (ys : List X) → IsPermutation (x ∷ ys) (put_in x ys)
  put_in_permutes x [] = IsPermutation-refl (x ∷ [])
  put_in_permutes x (y ∷ ys) = elim (cases_Bool (is_lt (order y x))) [
    | inl t ↦ rw t (IsPermutation-trans (x ∷ y ∷ ys) (y ∷ x ∷ ys) (y ∷ put_in x ys) (IsPermutation-insert (y ∷ ys) 1 x) (IsPermutation-cons y (x ∷ ys) (put_in x ys) (put_in_permutes x ys)))
    | inr t ↦ rw t (IsPermutation-refl (x ∷ y ∷ ys))
  ]

  sorted_alone : (x : X) → IsSorted order (x ∷ [])
  sorted_alone x k d low high = absurd (omega arith)

  sorted_cons : (x y : X) (ys : List X) → is_lt (order y x) ≡ false → IsSorted order (y ∷ ys) → IsSorted order (x ∷ y ∷ ys)
  sorted_cons x y ys e up zero d low high = e
  sorted_cons x y ys e up (suc k) d low high = let next : suc k + 1 ≡ suc (k + 1) = omega arith in rw next (up k d (omega arith) (omega arith))

  tail_sorted : (x y : X) (ys : List X) → IsSorted order (x ∷ y ∷ ys) → IsSorted order (y ∷ ys)
  tail_sorted x y ys up k d low high = let next : suc k + 1 ≡ suc (k + 1) = omega arith in rw next at (up (suc k) d (omega arith) (omega arith))

  put_in_after : (x y : X) (ys : List X) → is_lt (order x y) ≡ false → IsSorted order (y ∷ ys) → IsSorted order (y ∷ put_in x ys)
  put_in_after x y [] e up = sorted_cons y x [] e (sorted_alone x)
  put_in_after x y (z ∷ zs) e up = elim (cases_Bool (is_lt (order z x))) [
    | inl t ↦ rw t (sorted_cons y z (put_in x zs) (up zero y (omega arith) (omega arith)) (put_in_after x z zs (not_less_back (order x z) (order z x) (total.antisymm x z) t) (tail_sorted y z zs up)))
    | inr t ↦ rw t (sorted_cons y x (z ∷ zs) e (sorted_cons x z zs t (tail_sorted y z zs up)))
  ]

  put_in_sorted : (x : X) (ys : List X) → IsSorted order ys → IsSorted order (put_in x ys)
  put_in_sorted x [] up = sorted_alone x
  put_in_sorted x (y ∷ ys) up = elim (cases_Bool (is_lt (order y x))) [
    | inl t ↦ rw t (put_in_after x y ys (not_less_back (order x y) (order y x) (total.antisymm x y) t) up)
    | inr t ↦ rw t (sorted_cons x y ys t up)
  ]

  -- some order of a list is sorted
  pub sorted_there : (xs : List X) → (ys : List X) × IsPermutation xs ys × IsSorted order ys
  sorted_there [] = ([], IsPermutation-refl [], λ k d low high. absurd (omega arith))
  sorted_there (x ∷ xs) =
      let (ys, permuted, up) = sorted_there xs in
      (put_in x ys, IsPermutation-trans (x ∷ xs) (x ∷ ys) (put_in x ys) (IsPermutation-cons x xs ys permuted) (put_in_permutes x ys), put_in_sorted x ys up)
