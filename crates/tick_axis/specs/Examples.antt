-- An axis for the examples.
use Rattle.std.specs.Prelude.{ℕ}
use Rattle.tick_axis.specs.declared.Scale.{Scale}

-- an axis 1160 wide from 96 on, by its first and its last tick
abbrev pub axis : ℕ → ℕ → Scale
axis first last = record { left = 96; width = 1160; first = first; last = last }
