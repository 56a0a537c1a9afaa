-- What reading a file makes sure of: the bounds within which a history and its keys are.
use Rattle.std.specs.Prelude.{ℕ, ◌^◌, ◌<◌, ◌≤◌, length, sum_by, All}
use Rattle.std.specs.List.Sorted.{IsStrictlyIncreasing}
use Rattle.stale_model.specs.declared.Op.{Op}
use Rattle.stale_model.specs.declared.KeyOps.{KeyOps}
use Rattle.stale_model.specs.declared.History.{History}
use Rattle.stale_model.specs.Operations.{records_of}

-- the ticks of a and its value, one of this many, are as a history may have them
pub record IsValidOp (values : ℕ) (a : Op) : Type 0 where
  pub numbered : 1 ≤ a.rec
  pub starts : 1 ≤ a.start
  pub ordered : a.start ≤ a.finish
  pub tick : a.start < 2 ^ 62
  pub ends : a.finish ≤ 2 ^ 63
  pub slack : a.slack < 2 ^ 62
  pub value : a.value ≤ values

-- each operation is valid, the records rise, and there are at most a million
pub record IsValidKey (key : KeyOps) : Type 0 where
  pub ops : All (IsValidOp (length key.values)) key.ops
  pub rising : IsStrictlyIncreasing (records_of key.ops)
  pub few : length key.ops ≤ 1000000

-- each key is valid, and there are at most a million keys, and operations
pub record IsValidHistory (history : History) : Type 0 where
  pub keys : All IsValidKey history.keys
  pub few_keys : length history.keys ≤ 1000000
  pub few_ops : sum_by (λ key. length key.ops) history.keys ≤ 1000000
