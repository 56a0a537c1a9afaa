-- The starts of a key's writes by value. What serves the code alone.
use Rattle.std.specs.Prelude.{◌≡◌, ℕ, ◌+◌, ◌<◌, List, length, slice_index, Contains}
use Rattle.stale_model.specs.declared.Op.{Op}
use Rattle.stale_model.specs.declared.KeyOps.{KeyOps}
use Rattle.stale_model.specs.Operations.{operations, IsRead, IsWrite, earliest_start, latest_finish}

-- at the number of each value stands the earliest start of its write
pub record AreWriteStarts (key : KeyOps) (starts : List ℕ) : Type 0 where
  pub many : length starts ≡ length key.values + 1
  pub each : (w : Op) → Contains (operations key) w → IsWrite w → slice_index starts w.value ≡ earliest_start w

-- a is a read that ends, were it to end 2g later, before its write starts
abbrev pub IsEarlyBy : ℕ → List ℕ → Op → Type 0
IsEarlyBy g starts a = IsRead a × (latest_finish a + g + g < slice_index starts a.value)
