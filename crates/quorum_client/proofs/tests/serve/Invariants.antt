-- What is left for the requests that are to come.
use Rattle.std.proofs.Common.{◌≡◌, ◌+◌}
use Rattle.quorum_client.proofs.tests.serve.Given as goal

abbrev pub invariant-loop-served : goal.invariant-loop-served
invariant-loop-served g l = record {
  clock : l.seat.clock ≡ l.fn.seat.clock;
  left : l.fn.seat.left ≡ l.seat.left + l._served;
  taker : l.taker.box ≡ l.fn.taker.box;
  pass : l.pass.box ≡ l.fn.pass.box;
  number : l.pass.number ≡ l.fn.pass.number;
  budget : l.fn.pass.budget ≡ l.pass.budget + l._served;
}
