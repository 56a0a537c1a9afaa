use Rattle.std.proofs.Common.{◌≡◌, ◌+◌, ◌*◌, [], length, All}
use Rattle.audit_workers.specs.Workers.{IsReady}
use Rattle.audit_workers.proofs.workers.seats.Given as goal

abbrev pub invariant-loop-worker : goal.invariant-loop-worker
invariant-loop-worker l = record {
  own : l.whole.clock ≡ l.clock.id;
  drawn : l.whole.drawn ≡ [];
  left : l.whole.left + l._worker * (l.keys + 1) ≡ l.workers * (l.keys + 1);
  many : length l.seats.items ≡ l._worker;
  ready : All (λ seat. IsReady l.clock l.keys seat) l.seats.items;
}
