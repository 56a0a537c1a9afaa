-- The freshest of the replies so far.
use Rattle.std.proofs.Common.{◌≡◌, ◌≤◌, length, take}
use Rattle.stale_model.specs.Calls.{freshest}
use Rattle.quorum_client.proofs.gather.freshest.Given as goal

abbrev pub invariant-loop-k : goal.invariant-loop-k
invariant-loop-k l = record {
  inside : l.k ≤ length l.taken;
  best : l.best ≡ freshest (take l.k l.taken);
}
