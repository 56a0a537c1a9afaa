-- The multiples of a step in a range: which they are, and how many.
use Rattle.std.proofs.Common.{ℕ, ◌+◌, ◌*◌, ◌/◌, ◌<◌, ◌≤◌, inl, inr, arith}
use Rattle.std.specs.Int.{div_ceil}
use Rattle.std.proofs.Math.Nat.{mul-le-mul_right, lt-div-mul-add, div-mul-le_self}
use Rattle.std.proofs.lemmas.Nat.{div_below}
use Rattle.std.proofs.lemmas.Bool.{cases_lt}
use Rattle.std.proofs.lemmas.Grind.{div_ceil_times}
use Rattle.tick_axis.specs.declared.Scale.{Scale}
use Rattle.tick_axis.specs.Marks.{mark_count}

-- a number of steps reaches the tick exactly where it is at least the tick over the step, rounded up
pub ceil_least : (tick step n : ℕ) → 0 < step → tick ≤ n * step → div_ceil tick step ≤ n
ceil_least tick step n positive h =
    elim (cases_lt n (div_ceil tick step)) [
      | inl over ↦
          let most : (n + 1) * step ≤ div_ceil tick step * step = mul-le-mul_right step (omega arith) in
          absurd (omega (arith, (div_ceil_times tick step positive).1))
      | inr within ↦ within
    ]

pub ceil_reaches : (tick step n : ℕ) → 0 < step → div_ceil tick step ≤ n → tick ≤ n * step
ceil_reaches tick step n positive h =
    let most : div_ceil tick step * step ≤ n * step = mul-le-mul_right step h in
    omega (arith, (div_ceil_times tick step positive).0)

-- the first multiple is at most one more than the last
pub ceil_le : (first last step : ℕ) → 0 < step → first ≤ last → div_ceil first step ≤ last / step + 1
ceil_le first last step positive h =
    let after : last < last / step * step + step = lt-div-mul-add positive in
    ceil_least first step (last / step + 1) positive (omega arith)

-- ten marks or fewer: fewer than eleven steps from the first tick to the last
pub span_of_few : (s : Scale) (step : ℕ) → 0 < step → mark_count s step ≤ 10 → s.last < s.first + 11 * step
span_of_few s step positive few =
    let after : s.last < s.last / step * step + step = lt-div-mul-add positive in
    let most : s.last / step * step ≤ (div_ceil s.first step + 9) * step = mul-le-mul_right step (omega arith) in
    omega (arith, (div_ceil_times s.first step positive).1)

-- where nine steps don't reach the last tick's end, there are at most ten marks
pub few_marks : (s : Scale) (step : ℕ) → 0 < step → s.last < 10 * step → mark_count s step ≤ 10
few_marks s step positive h =
    let few : s.last / step < 10 = div_below s.last step 10 positive h in
    omega arith

-- more than ten marks: ten steps or more from the first tick to the last
pub span_of_many : (s : Scale) (step : ℕ) → 0 < step → 10 < mark_count s step → s.first + 10 * step ≤ s.last
span_of_many s step positive many =
    let least : (div_ceil s.first step + 10) * step ≤ s.last / step * step = mul-le-mul_right step (omega arith) in
    omega (arith, (div_ceil_times s.first step positive).0, div-mul-le_self s.last step)

-- where the ticks span a step there is a mark
pub some_mark : (s : Scale) (step : ℕ) → 0 < step → s.first + step ≤ s.last + 1 → 0 < mark_count s step
some_mark s step positive wide =
    let after : s.last < s.last / step * step + step = lt-div-mul-add positive in
    elim (cases_lt (s.last / step) (div_ceil s.first step)) [
      | inl none ↦
          let most : (s.last / step + 1) * step ≤ div_ceil s.first step * step = mul-le-mul_right step (omega arith) in
          absurd (omega (arith, (div_ceil_times s.first step positive).1))
      | inr some ↦ omega arith
    ]
