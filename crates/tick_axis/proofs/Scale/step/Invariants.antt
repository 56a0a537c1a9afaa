use Rattle.std.proofs.Common.{ℕ, ◌-◌, ◌<◌, ◌≤◌}
use Rattle.tick_axis.specs.Marks.{mark_count, round_number}
use Rattle.tick_axis.proofs.Scale.step.Given as goal

abbrev pub invariant-loop-place : goal.invariant-loop-place
invariant-loop-place l = record { within : l.place ≤ 55; many : (k : ℕ) → k < l.place → 10 < mark_count l.self (round_number k) }

abbrev pub decreases-loop-place : goal.decreases-loop-place
decreases-loop-place l = 55 - l.place
