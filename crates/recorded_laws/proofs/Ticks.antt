-- The tickets of a run, where they are 1 to their number.
use Rattle.std.proofs.Common.{ℕ, zero, suc, ◌≤◌, List, [], ◌∷◌, length, inl, inr, arith}
use Rattle.std.specs.Prelude.{Contains}
use Rattle.std.proofs.lemmas.Bool.{cases_lt}
use Rattle.std.proofs.lemmas.Bool.Decides.{nat_tests}
use Rattle.std.proofs.lemmas.List.Sorted.{Contains-permutation}
use Rattle.stale_model.specs.RecordedRuns.{tickets_of}
use Rattle.stale_model.proofs.Members.{empty_has_none}
use Rattle.stale_model.proofs.Sorted.{first_or_later}
use Rattle.run_laws.proofs.Counted.{all_there}
use Rattle.ticket_clock.specs.Seats.{times, IsOneToLength}
use Rattle.ticket_clock.proofs.Totals.{times_cons}
use Rattle.recorded_laws.specs.Laws.{IsTick, DrawnAreTicks}

-- a number that the list contains stands in it at least once
stands_once : (x : ℕ) (xs : List ℕ) → Contains xs x → 1 ≤ times x xs
stands_once x [] c = absurd (empty_has_none x c)
stands_once x (y ∷ ys) c = elim (first_or_later y x ys c) [
  | inl e ↦ let t = times_cons x y ys in grind (arith, nat_tests)
  | inr later ↦ let rest = stands_once x ys later in omega (arith, times_cons x y ys, rest)
]

-- of the numbers from 1 to the length each is one of them
within_length : (xs : List ℕ) → IsOneToLength xs → (x : ℕ) → Contains xs x → (1 ≤ x) × (x ≤ length xs)
within_length xs all zero c = let some = stands_once zero xs c in let none = all.no_zero in absurd (omega arith)
within_length xs all (suc x) c = elim (cases_lt (length xs) (suc x)) [
  | inl above ↦ let some = stands_once (suc x) xs c in let none = all.none_above (suc x) above in absurd (omega arith)
  | inr within ↦ (omega arith, within)
]

pub drawn_are_ticks : DrawnAreTicks
drawn_are_ticks entries journals drawn same all few = all_there IsTick (tickets_of entries journals) (λ t c.
    let (low, high) = within_length drawn all t (Contains-permutation (tickets_of entries journals) drawn t same c) in
    (low, omega arith))
