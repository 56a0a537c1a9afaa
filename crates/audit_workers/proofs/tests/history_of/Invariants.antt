use Rattle.std.proofs.Common.{◌≡◌, ◌*◌, ◌≤◌, length, All, sum_by}
use Rattle.stale_model.specs.declared.KeyOps.{KeyOps}
use Rattle.stale_model.specs.Valid.{IsValidKey}
use Rattle.audit_workers.proofs.tests.history_of.Given as goal

abbrev pub invariant-loop-duplicate : goal.invariant-loop-duplicate
invariant-loop-duplicate l = record {
  valid : All IsValidKey l.keys.items;
  many : length l.keys.items ≡ l.duplicate-index;
  few : sum_by (λ (key : KeyOps). length key.ops) l.keys.items ≤ 2 * l.duplicate-index;
}
