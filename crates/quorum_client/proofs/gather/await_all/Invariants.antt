-- The seat, past the serve tickets so far.
use Rattle.std.proofs.Common.{◌≡◌, ◌<◌, ◌≤◌, All, take}
use Rattle.quorum_client.proofs.gather.await_all.Given as goal

abbrev pub invariant-loop-took : goal.invariant-loop-took
invariant-loop-took g l = record {
  seat : l.seat ≡ record l.fn.seat { seen = l.seat.seen };
  seen : l.fn.seat.seen ≤ l.seat.seen;
  past : All (λ t. t.serve < l.seat.seen) (take l.took-index l.replies);
}
