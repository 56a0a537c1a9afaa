use Rattle.std.proofs.Common.{◌≡◌, ◌+◌, length}
use Rattle.ticket_clock.proofs.tests.draw_all.Given as goal

abbrev pub invariant-loop-drawn : goal.invariant-loop-drawn
invariant-loop-drawn l = (l.seat.clock ≡ l.fn.seat.clock) × (l.seat.left + l._drawn ≡ l.fn.seat.left) × (length l.seat.drawn ≡ length l.fn.seat.drawn + l._drawn)
