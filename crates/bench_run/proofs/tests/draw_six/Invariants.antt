use Rattle.std.proofs.Common.{◌≡◌, ◌+◌}
use Rattle.bench_run.proofs.tests.draw_six.Given as goal

abbrev pub invariant-loop-drawn : goal.invariant-loop-drawn
invariant-loop-drawn l = (l.seat.clock ≡ l.fn.seat.clock) × (l.seat.left + l._drawn ≡ l.fn.seat.left)
