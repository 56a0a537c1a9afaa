-- A clock and its seats, as a caller's contract sees them.
use Rattle.std.specs.Prelude.{◌≡◌, ℕ, ◌==◌, ◌<◌, ◌≤◌, List, [], length, count_by}
use Rattle.atomic_table.specs.Seated.{TableId}

-- a clock: which one it is, and how many tickets it can give
pub record ClockView : Type 0 where
  pub id : TableId
  pub budget : ℕ

-- a seat: its clock, the tickets it has drawn, how many it may still draw, and what its next one is no less than
pub record SeatView : Type 0 where
  pub clock : TableId
  pub drawn : List ℕ
  pub left : ℕ
  pub seen : ℕ

-- a seat of this clock that has drawn nothing
abbrev pub IsFresh : ClockView → ℕ → ℕ → SeatView → Type 0
IsFresh c left seen s = s ≡ record { clock = c.id; drawn = []; left = left; seen = seen }

-- how often x stands in the list
abbrev pub times : ℕ → List ℕ → ℕ
times x xs = count_by (λ y. y == x) xs

-- no number stands twice in the list
abbrev pub HasNoneTwice : List ℕ → Type 0
HasNoneTwice xs = (x : ℕ) → times x xs ≤ 1

-- the list holds the numbers from 1 to its length, each once, and no others
pub record IsOneToLength (xs : List ℕ) : Type 0 where
  pub once : (x : ℕ) → 1 ≤ x → x ≤ length xs → times x xs ≡ 1
  pub no_zero : times 0 xs ≡ 0
  pub none_above : (x : ℕ) → length xs < x → times x xs ≡ 0
