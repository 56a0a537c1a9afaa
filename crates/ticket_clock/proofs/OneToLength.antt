-- As many different numbers from 1 on as there are below n are all of these.
use Rattle.std.proofs.Common.{◌≡◌, ℕ, zero, suc, ◌+◌, ◌-◌, ◌<◌, ◌≤◌, cond, leb, List, [], ◌∷◌, length, refl, subst, arith}
use Rattle.std.proofs.lemmas.Bool.Decides.{nat_tests}
use native.Mathlib.Decide.{ℕ_discrete}
use Rattle.ticket_clock.specs.Seats.{times, HasNoneTwice, IsOneToLength}
use Rattle.ticket_clock.proofs.Totals.{times_cons}

-- how many places of the list hold a number below n
abbrev below : ℕ → List ℕ → ℕ
below zero xs = 0
below (suc n) xs = times n xs + below n xs

below_nil : (n : ℕ) → below n [] ≡ 0
below_nil zero = refl
below_nil (suc n) = omega (arith, below_nil n)

below_cons : (n y : ℕ) (ys : List ℕ) → below n (y ∷ ys) ≡ cond (leb (suc y) n) 1 0 + below n ys
below_cons zero y ys = grind (arith, nat_tests)
below_cons (suc n) y ys = let t = times_cons n y ys in let e = below_cons n y ys in grind (arith, nat_tests)

-- where each number of the list is below n, all places do
below_all : (n : ℕ) (xs : List ℕ) → ((x : ℕ) → 0 < times x xs → x < n) → below n xs ≡ length xs
below_all n [] within = below_nil n
below_all n (y ∷ ys) within =
    let here : y < n = within y (let t = times_cons y y ys in grind (arith, nat_tests)) in
    let rest = below_all n ys (λ x there. within x (omega (arith, times_cons x y ys))) in
    let c = below_cons n y ys in
    grind (arith, nat_tests)

module _ (xs : List ℕ) (once : HasNoneTwice xs) (no_zero : times 0 xs ≡ 0) where
  -- at most n - 1 places do, where none is 0 and none stands twice
  below_le : (n : ℕ) → below n xs ≤ n - 1
  below_le zero = omega arith
  below_le (suc zero) = omega arith
  below_le (suc (suc n)) = omega (arith, once (suc n), below_le (suc n))

  module _ (k : ℕ) (some_number : 0 < k) (missing : times k xs ≡ 0) where
    less_step : (n : ℕ) → (k < n → below n xs + 1 ≤ n - 1) → k < suc n → Dec (k ≡ n) → below (suc n) xs + 1 ≤ suc n - 1
    less_step n before within (yes e) = let none : times n xs ≡ 0 = subst (λ (j : ℕ). times j xs ≡ 0) e missing in let le = below_le n in omega arith
    less_step n before within (no ne) = let fewer = before (omega arith) in let one = once n in omega arith

    -- and fewer, where a number below n is missing too
    below_less : (n : ℕ) → k < n → below n xs + 1 ≤ n - 1
    below_less zero within = omega arith
    below_less (suc n) within = less_step n (λ less. below_less n less) within (ℕ_discrete k n)

pub one_to_length : (n : ℕ) (xs : List ℕ) → HasNoneTwice xs → ((x : ℕ) → 0 < times x xs → (1 ≤ x) × (x < n)) → n ≤ length xs + 1 → 1 ≤ n
    → IsOneToLength xs × (n ≡ length xs + 1)
one_to_length n xs once within many least =
    let no_zero : times 0 xs ≡ 0 = grind (arith, within 0) in
    let all : below n xs ≡ length xs = below_all n xs (λ x there. (within x there).1) in
    let count : n ≡ length xs + 1 = omega (arith, below_le xs once no_zero n) in (
      record {
        once = λ x some_number le.
            let fewer = λ (missing : times x xs ≡ 0). below_less xs once no_zero x some_number missing n (omega arith) in
            let most = once x in
            grind arith;
        no_zero = no_zero;
        none_above = λ x above. let w = within x in grind arith;
      },
      count,
    )
