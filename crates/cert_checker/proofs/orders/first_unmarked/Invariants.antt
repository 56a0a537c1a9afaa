use Rattle.std.proofs.Common.{◌≡◌, ◌<◌, ◌+◌, ℕ, true}
use Rattle.stale_model.specs.Orders.{StandsAt}
use Rattle.cert_checker.proofs.orders.first_unmarked.Given as goal

abbrev pub invariant-loop-place : goal.invariant-loop-place
invariant-loop-place l = record {
  ops : l.op-items ≡ l.key.ops;
  marked : (p : ℕ) → p < l.place + 1 → StandsAt l.marks p true;
}
