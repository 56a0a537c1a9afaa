-- The letters taken so far, and the replies picked from them.
use Rattle.std.proofs.Common.{◌≡◌, ◌≤◌}
use Rattle.quorum_client.specs.FirstReplies.{taken_of, IsFilled, IsGathered}
use Rattle.quorum_client.proofs.gather.take_quorum.Given as goal

abbrev pub invariant-loop : goal.invariant-loop
invariant-loop g l = record {
  own : l.taker.box ≡ l.fn.taker.box;
  most : l.taken.count ≤ l.quorum;
  filled : IsFilled l.taken;
  gathered : IsGathered l.seq l.replicas l.fn.taker.taken l.taker.taken (taken_of l.taken);
}
