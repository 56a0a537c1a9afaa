use Rattle.std.proofs.Common.{◌≡◌, ◌+◌, ◌-◌, ◌*◌, ◌≤◌, map}
use Rattle.std.specs.Int.{div_ceil}
use Rattle.std.specs.List.{range_with_len}
use Rattle.tick_axis.proofs.Scale.marks.Given as goal

abbrev pub invariant-loop-number : goal.invariant-loop-number
invariant-loop-number l = record {
  started : div_ceil l.self.first l.step ≤ l.number;
  within : l.number ≤ l.number-end + 1;
  so_far : l.marks.items ≡ map (λ n. n * l.step) (range_with_len (div_ceil l.self.first l.step) (l.number - div_ceil l.self.first l.step));
}
