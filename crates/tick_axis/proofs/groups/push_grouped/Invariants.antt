use Rattle.std.proofs.Common.{◌≡◌, ◌++◌, drop}
use Rattle.tick_axis.specs.Groups.{in_groups}
use Rattle.tick_axis.proofs.groups.push_grouped.Given as goal

abbrev pub invariant-loop-place : goal.invariant-loop-place
invariant-loop-place l = l.text.items ++ in_groups (drop l.place l.digits) ≡ l.fn.text.items ++ in_groups l.digits
