-- Totals over what the holders of a rule know, and how often a number stands in a list.
use Rattle.std.proofs.Common.{◌≡◌, ◌≢◌, ℕ, zero, suc, ◌+◌, ◌≤◌, cond, eqb, List, [], ◌∷◌, ◌++◌, set, sum_by, sym, refl, ap, subst, ⊎_elim, arith}
use Rattle.std.proofs.lemmas.List.Sums.{sum_by-cons, sum_by_push, sum_by-append}
use mathlib.Core.Option.{some, some-injective, some-ne-none}
use lib.ListN.{get_elem?}
use Rattle.atomic_table.proofs.Lists.{at_set, at_snoc}
use Rattle.ticket_clock.specs.Seats.{times}

module _ {V : Type 0} where
  -- the total after a change of one view
  pub total_set : (f : V → ℕ) (views : List V) (id : ℕ) (v w : V) → get_elem? views id ≡ some v → sum_by f (set views id w) + f v ≡ sum_by f views + f w
  total_set f [] id v w at = absurd (some-ne-none v (sym at))
  total_set f (x ∷ xs) zero v w at = omega (arith, sum_by-cons f x xs, sum_by-cons f w xs, ap f (some-injective x v at))
  total_set f (x ∷ xs) (suc id) v w at = omega (arith, sum_by-cons f x xs, sum_by-cons f x (set xs id w), total_set f xs id v w at)

  -- one view's part is within the total
  pub part_le : (f : V → ℕ) (views : List V) (id : ℕ) (v : V) → get_elem? views id ≡ some v → f v ≤ sum_by f views
  part_le f [] id v at = absurd (some-ne-none v (sym at))
  part_le f (x ∷ xs) zero v at = omega (arith, sum_by-cons f x xs, ap f (some-injective x v at))
  part_le f (x ∷ xs) (suc id) v at = omega (arith, sum_by-cons f x xs, part_le f xs id v at)

  -- where each view's part is 0, the total is
  pub total_zero : (f : V → ℕ) (views : List V) → ((id : ℕ) (v : V) → get_elem? views id ≡ some v → f v ≡ 0) → sum_by f views ≡ 0
  total_zero f [] none = refl
  total_zero f (x ∷ xs) none = omega (arith, sum_by-cons f x xs, none 0 x refl, total_zero f xs (λ id v at. none (suc id) v at))

  -- a fact of each view lasts where one view changes to one that has it; the others show theirs as others
  pub each_set_else : (F : V → Type 0) (views : List V) (id : ℕ) (w : V) → F w → ((j : ℕ) (u : V) → j ≢ id → get_elem? views j ≡ some u → F u)
      → (j : ℕ) (u : V) → get_elem? (set views id w) j ≡ some u → F u
  each_set_else F views id w mine others j u at =
      ⊎_elim (λ (t : (j ≡ id) × (w ≡ u)). subst F t.1 mine) (λ (t : (j ≢ id) × (get_elem? views j ≡ some u)). others j u t.0 t.1) (at_set views id j w u at)

  -- the same, where all views had it before
  pub each_set : (F : V → Type 0) (views : List V) (id : ℕ) (w : V) → F w → ((j : ℕ) (u : V) → get_elem? views j ≡ some u → F u)
      → (j : ℕ) (u : V) → get_elem? (set views id w) j ≡ some u → F u
  each_set F views id w mine all = each_set_else F views id w mine (λ j u ne there. all j u there)

  -- and where one that has it comes last
  pub each_push : (F : V → Type 0) (views : List V) (w : V) → F w → ((j : ℕ) (u : V) → get_elem? views j ≡ some u → F u)
      → (j : ℕ) (u : V) → get_elem? (views ++ w ∷ []) j ≡ some u → F u
  each_push F views w last all j u at = ⊎_elim (λ (t : get_elem? views j ≡ some u). all j u t) (λ (t : w ≡ u). subst F t last) (at_snoc views w u j at)

pub times_push : (x : ℕ) (xs : List ℕ) (y : ℕ) → times x (xs ++ y ∷ []) ≡ times x xs + cond (eqb y x) 1 0
times_push x xs y = sum_by_push (λ z. cond (eqb z x) 1 0) xs y

pub times_append : (x : ℕ) (xs ys : List ℕ) → times x (xs ++ ys) ≡ times x xs + times x ys
times_append x xs ys = sum_by-append (λ z. cond (eqb z x) 1 0) xs ys

pub times_cons : (x y : ℕ) (ys : List ℕ) → times x (y ∷ ys) ≡ cond (eqb y x) 1 0 + times x ys
times_cons x y ys = sum_by-cons (λ z. cond (eqb z x) 1 0) y ys
