-- The letters of one sender.
use Rattle.std.proofs.Common.{◌≡◌, ◌≢◌, ℕ, ◌<◌, cond, eqb, List, [], ◌∷◌, ◌++◌, length, refl, arith, ne_eqb}
use Rattle.std.proofs.lemmas.List.Elements.{filter-append}
use Rattle.std.proofs.lemmas.Bool.Decides.{nat_tests}
use Rattle.ticket_clock.specs.Seats.{times}
use Rattle.post_box.specs.Boxes.{letters_of}

pub times_one : (s n : ℕ) → times s (n ∷ []) ≡ cond (eqb n s) 1 0
times_one s n = grind (arith, nat_tests)

pub none_there : {M : Type 0} (xs : List M) → ¬ (0 < length xs) → xs ≡ []
none_there [] none = refl
none_there (x ∷ xs) none = absurd (none (omega arith))

module _ {M : Type 0} (from : M → ℕ) where
  pub letters_append : (s : ℕ) (xs ys : List M) → letters_of from s (xs ++ ys) ≡ letters_of from s xs ++ letters_of from s ys
  letters_append s xs ys = filter-append (λ x. eqb (from x) s) xs ys

  -- a letter is none of another sender's
  pub letters_else : (s : ℕ) (x : M) → from x ≢ s → letters_of from s (x ∷ []) ≡ []
  letters_else s x ne = rw (ne_eqb (from x) s ne) refl
