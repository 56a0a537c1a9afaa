-- The letters of the clients so far.
use Rattle.std.proofs.Common.{◌≡◌, ◌+◌, ◌≤◌, length, take}
use Rattle.std.specs.List.{sum_by}
use Rattle.key_recorder.specs.Prepared.{budgets_on}
use Rattle.key_recorder.proofs.prepare.budgets.Given as goal

abbrev pub invariant-loop-calls : goal.invariant-loop-calls
invariant-loop-calls l = record {
  sum : l.sum ≡ budgets_on l.shards l.shard (take l.calls-index l.plans);
  few : l.sum ≤ sum_by (λ calls. length calls) (take l.calls-index l.plans) + l.calls-index;
  some : l.calls-index ≤ l.sum;
}
