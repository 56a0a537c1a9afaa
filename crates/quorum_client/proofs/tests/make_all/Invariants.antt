-- The calls that are left.
use Rattle.std.proofs.Common.{◌≡◌, ◌+◌, length}
use Rattle.quorum_client.proofs.tests.make_all.Given as goal

abbrev pub invariant-loop-made : goal.invariant-loop-made
invariant-loop-made g l = record {
  clock : l.client.seat.clock ≡ l.fn.client.seat.clock;
  left : length l.client.left + l._made ≡ length l.fn.client.left;
}
