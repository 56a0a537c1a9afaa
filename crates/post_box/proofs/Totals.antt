-- Totals over views of which two change, or one alone counts.
use Rattle.std.proofs.Common.{◌≡◌, ◌≢◌, ℕ, zero, suc, ◌+◌, ◌≤◌, List, [], ◌∷◌, ◌++◌, set, sum_by, sym, refl, ap, arith}
use Rattle.std.proofs.lemmas.List.Sums.{sum_by-cons, sum_by_push}
use mathlib.Core.Option.{some, some-injective, some-ne-none}
use lib.ListN.{get_elem?}
use Rattle.ticket_clock.proofs.Totals.{total_set, part_le, total_zero}

module _ {V : Type 0} where
  -- one view changes, and a new one comes last
  pub total_split : (f : V → ℕ) (views : List V) (id : ℕ) (v w new : V) → get_elem? views id ≡ some v
      → sum_by f (set views id w ++ new ∷ []) + f v ≡ sum_by f views + f w + f new
  total_split f views id v w new at = omega (arith, total_set f views id v w at, sum_by_push f (set views id w) new)

  -- one view takes in another, which is spent
  pub total_join : (f : V → ℕ) (views : List V) (id : ℕ) (v : V) (other : ℕ) (u both spent : V) → get_elem? views id ≡ some v → get_elem? (set views id both) other ≡ some u
      → sum_by f (set (set views id both) other spent) + f v + f u ≡ sum_by f views + f both + f spent
  total_join f views id v other u both spent at at_rest = omega (arith, total_set f views id v both at, total_set f (set views id both) other u spent at_rest)

  -- two views' parts are within the total
  pub two_le : (f : V → ℕ) (views : List V) (i j : ℕ) (v w : V) → i ≢ j → get_elem? views i ≡ some v → get_elem? views j ≡ some w → f v + f w ≤ sum_by f views
  two_le f [] i j v w ne at at_j = absurd (some-ne-none v (sym at))
  two_le f (x ∷ xs) zero zero v w ne at at_j = absurd (ne refl)
  two_le f (x ∷ xs) zero (suc j) v w ne at at_j = omega (arith, sum_by-cons f x xs, ap f (some-injective x v at), part_le f xs j w at_j)
  two_le f (x ∷ xs) (suc i) zero v w ne at at_j = omega (arith, sum_by-cons f x xs, ap f (some-injective x w at_j), part_le f xs i v at)
  two_le f (x ∷ xs) (suc i) (suc j) v w ne at at_j = omega (arith, sum_by-cons f x xs, two_le f xs i j v w (λ e. ne (ap suc e)) at at_j)

  -- where each other view's part is 0, the total is one view's
  pub total_alone : (f : V → ℕ) (views : List V) (id : ℕ) (v : V) → get_elem? views id ≡ some v → ((j : ℕ) (u : V) → j ≢ id → get_elem? views j ≡ some u → f u ≡ 0) → sum_by f views ≡ f v
  total_alone f [] id v at none = absurd (some-ne-none v (sym at))
  total_alone f (x ∷ xs) zero v at none = omega (arith, sum_by-cons f x xs, ap f (some-injective x v at), total_zero f xs (λ j u there. none (suc j) u (λ n. absurd (omega arith)) there))
  total_alone f (x ∷ xs) (suc id) v at none = omega (arith, sum_by-cons f x xs, none 0 x (λ n. absurd (omega arith)) refl, total_alone f xs id v at (λ j u ne there. none (suc j) u (λ n. ne (omega arith)) there))
