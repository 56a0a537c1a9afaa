-- Where a tick stands on the axis.
use Rattle.std.specs.Prelude.{ℕ, ◌+◌, ◌-◌, ◌*◌, ◌/◌, ◌≤◌, ◌==◌, min, max, if◌then◌else◌}
use Rattle.tick_axis.specs.declared.Scale.{Scale}

-- the last tick isn't before the first, and the axis is at most 65536 wide and as far from the picture's left edge
pub record IsScale (s : Scale) : Type 0 where
  pub ordered : s.first ≤ s.last
  pub near : s.left ≤ 65536
  pub narrow : s.width ≤ 65536

-- a tick; but the first for one before it, and the last for one after it
abbrev pub tick_within : Scale → ℕ → ℕ
tick_within s tick = max s.first (min tick s.last)

-- in proportion between the two ends, rounded down; all at the left where there is one tick only
abbrev pub tick_place : Scale → ℕ → ℕ
tick_place s tick =
    if s.first == s.last then s.left
    else s.left + (tick_within s tick - s.first) * s.width / (s.last - s.first)
