-- Which ticks of the axis are marked, and from which tick they count.
use Rattle.std.specs.Prelude.{ℕ, ◌+◌, ◌-◌, ◌*◌, ◌/◌, ◌%◌, ◌^◌, nat_lt, nat_le, if◌then◌else◌, List, [], ◌∷◌, map, find, slice_index, unwrap_or}
use Rattle.std.specs.List.{range_with_len}
use Rattle.std.specs.Int.{div_ceil}
use Rattle.tick_axis.specs.declared.Scale.{Scale}

-- how many multiples of a step there are from the first tick to the last: those up to the last, 0 among them, without those below the first
abbrev pub mark_count : Scale → ℕ → ℕ
mark_count s step = s.last / step + 1 - div_ceil s.first step

-- the round numbers 1, 2, 5, 10, 20, 50 and so on, counted from 0
abbrev pub round_number : ℕ → ℕ
round_number place = slice_index (1 ∷ 2 ∷ 5 ∷ []) (place % 3) * 10 ^ (place / 3)

-- the first of the round numbers below 10 ^ 19 whose multiples give at most ten marks
unfoldable pub step_of : Scale → ℕ
step_of s = unwrap_or (find (λ step. nat_le (mark_count s step) 10) (map round_number (range_with_len 0 57))) 0

-- the multiples of a step from the first tick to the last, rising
abbrev pub multiples : Scale → ℕ → List ℕ
multiples s step = map (λ n. n * step) (range_with_len (div_ceil s.first step) (mark_count s step))

-- the ticks that are marked
abbrev pub marks_of : Scale → List ℕ
marks_of s = multiples s (step_of s)

-- the tick from which marks count, for this step: 0 while the ticks are fewer than a thousand steps, then the greatest multiple of a hundred steps that isn't after the first tick
abbrev pub base_at : Scale → ℕ → ℕ
base_at s step = if nat_lt s.last (1000 * step) then 0 else s.first - s.first % (100 * step)

-- the tick from which marks count
abbrev pub base_of : Scale → ℕ
base_of s = base_at s (step_of s)
