-- What filtered, mapped and flattened lists contain, and the beginnings of lists.
use Rattle.std.proofs.Common.{◌≡◌, ℕ, zero, Bool, true, false, cond, List, [], ◌∷◌, map, take, drop, refl, sym, ◌∙◌, ap, inl, inr, subst, arith}
use Rattle.std.specs.Prelude.{Contains}
use Rattle.std.specs.List.{filter, flat_map}
use Rattle.std.proofs.lemmas.Bool.{both_ways}
use Rattle.std.proofs.lemmas.List.{length-map, get_or-map, take-append-drop}
use Rattle.std.proofs.lemmas.List.Elements.{Contains-append_left, Contains-append_cases}
use Rattle.stale_model.proofs.Sorted.{first_or_later, contains_later}
use mathlib.Core.List.{IsPrefix}

-- the empty list contains nothing
pub empty_has_none : {X : Type 0} (x : X) → Contains [] x → ⊥
empty_has_none x c = let l = c.1 in omega arith

-- a list contains its first element
pub contains_first : {X : Type 0} (x : X) (xs : List X) → Contains (x ∷ xs) x
contains_first x xs = (zero, omega arith, refl)

-- a list contains what a beginning of it does
pub begun_with : {X : Type 0} (xs ys : List X) (x : X) → IsPrefix xs ys → Contains xs x → Contains ys x
begun_with {X = X} xs ys x begins c = subst (λ (l : List X). Contains l x) begins.1 (Contains-append_left xs begins.0 x c)

-- a list contains what its first places do
pub taken_is_there : {X : Type 0} (n : ℕ) (xs : List X) (x : X) → Contains (take n xs) x → Contains xs x
taken_is_there n xs x c = begun_with (take n xs) xs x (drop n xs, take-append-drop n xs) c

module _ {X : Type 0} (passes : X → Bool) where
  kept_by : (b : Bool) (x : X) (xs : List X) (y : X) → passes x ≡ b → (Contains (filter passes xs) y → Contains xs y × (passes y ≡ true)) → Contains (cond b (x ∷ filter passes xs) (filter passes xs)) y
      → Contains (x ∷ xs) y × (passes y ≡ true)
  kept_by true x xs y t rest c = elim (first_or_later x y (filter passes xs) c) [
    | inl e ↦ subst (λ (z : X). Contains (x ∷ xs) z × (passes z ≡ true)) e (contains_first x xs, t)
    | inr d ↦ let (there, test) = rest d in (contains_later x y xs there, test)
  ]
  kept_by false x xs y t rest c = let (there, test) = rest c in (contains_later x y xs there, test)

  kept : (xs : List X) (y : X) → Contains (filter passes xs) y → Contains xs y × (passes y ≡ true)
  kept [] y c = absurd (empty_has_none y c)
  kept (x ∷ xs) y c = kept_by (passes x) x xs y refl (kept xs y) c

  -- what a filter keeps is of the list
  pub kept_is_there : (xs : List X) (x : X) → Contains (filter passes xs) x → Contains xs x
  kept_is_there xs x c = (kept xs x c).0

  -- and passes
  pub kept_passes : (xs : List X) (x : X) → Contains (filter passes xs) x → passes x ≡ true
  kept_passes xs x c = (kept xs x c).1

  kept_from_by : (b : Bool) (x : X) (xs : List X) (y : X) → passes x ≡ b → passes y ≡ true → (Contains xs y → Contains (filter passes xs) y) → Contains (x ∷ xs) y
      → Contains (cond b (x ∷ filter passes xs) (filter passes xs)) y
  kept_from_by true x xs y t test rest c = elim (first_or_later x y xs c) [
    | inl e ↦ subst (λ (z : X). Contains (x ∷ filter passes xs) z) e (contains_first x (filter passes xs))
    | inr d ↦ contains_later x y (filter passes xs) (rest d)
  ]
  kept_from_by false x xs y t test rest c = elim (first_or_later x y xs c) [
    | inl e ↦ absurd (both_ways (passes y) (ap passes (sym e) ∙ t) test)
    | inr d ↦ rest d
  ]

  -- what is of the list and passes is kept
  pub kept_from : (xs : List X) (x : X) → Contains xs x → passes x ≡ true → Contains (filter passes xs) x
  kept_from [] y c test = absurd (empty_has_none y c)
  kept_from (x ∷ xs) y c test = kept_from_by (passes x) x xs y refl test (λ d. kept_from xs y d test) c

module _ {X Y : Type 0} where
  -- what is of the list is mapped
  pub mapped_from : (f : X → Y) (xs : List X) (x : X) → Contains xs x → Contains (map f xs) (f x)
  mapped_from f xs x (k, l, e) = (k, (let n = length-map xs f in omega arith), get_or-map f xs k x (f x) l ∙ ap f e)

  -- what a map contains is of the list before
  pub before_mapped : (f : X → Y) (xs : List X) (y : Y) → Contains (map f xs) y → (x : X) × Contains xs x × (f x ≡ y)
  before_mapped f [] y c = absurd (empty_has_none y c)
  before_mapped f (x ∷ xs) y c = elim (first_or_later (f x) y (map f xs) c) [
    | inl e ↦ (x, contains_first x xs, e)
    | inr d ↦ let (z, there, e) = before_mapped f xs y d in (z, contains_later x z xs there, e)
  ]

  -- what a flattened list contains comes from an element of the list before
  pub before_flattened : (f : X → List Y) (xs : List X) (y : Y) → Contains (flat_map f xs) y → (x : X) × Contains xs x × Contains (f x) y
  before_flattened f [] y c = absurd (empty_has_none y c)
  before_flattened f (x ∷ xs) y c = elim (Contains-append_cases (f x) (flat_map f xs) y c) [
    | inl here ↦ (x, contains_first x xs, here)
    | inr d ↦ let (z, there, e) = before_flattened f xs y d in (z, contains_later x z xs there, e)
  ]
