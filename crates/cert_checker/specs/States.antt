-- The fault of a key with the record that is named, and what the steps that look for it find.
use Rattle.std.specs.Prelude.{◌≡◌, ℕ, ◌+◌, List, length, Option, Some, None}
use Rattle.stale_model.specs.declared.Op.{Op}
use Rattle.stale_model.specs.declared.KeyOps.{KeyOps}
use Rattle.stale_model.specs.Operations.{operations, earliest_start}
use Rattle.stale_model.specs.Faults.{IsWriteOf, IsDuplicateKey, IsUnmatchedKey, IsEarlyKey, IsClearKey}
use Rattle.stale_model.specs.Orders.{StandsAt}
use Rattle.cert_checker.specs.declared.faults.State.{State}
use Rattle.cert_checker.specs.declared.faults.State.TheVariants.{Duplicate, Unmatched, Early, Clear}

-- the fault of the key, and the record that is named, or that it has none
abbrev pub StateHolds : List Op → State → Type 0
StateHolds ops (Duplicate rec) = IsDuplicateKey ops rec
StateHolds ops (Unmatched rec) = IsUnmatchedKey ops rec
StateHolds ops (Early rec) = IsEarlyKey ops rec
StateHolds ops Clear = IsClearKey ops

-- w is the one such operation, and its earliest start is this one
pub record IsOnly (Is : Op → Type 0) (start : ℕ) (w : Op) : Type 0 where
  pub is : Is w
  pub only : (x : Op) → Is x → x ≡ w
  pub start_is : earliest_start w ≡ start

-- the earliest start of the one such operation, or that there is none
abbrev pub IsStart : (Op → Type 0) → Option ℕ → Type 0
IsStart Is None = (w : Op) → Is w → ⊥
IsStart Is (Some start) = (w : Op) × IsOnly Is start w

-- a slot for each value of a key, with the earliest start of its one write
pub record AreStarts (key : KeyOps) (starts : List (Option ℕ)) : Type 0 where
  pub size : length starts ≡ length key.values + 1
  pub slots : (value : ℕ) (slot : Option ℕ) → StandsAt starts value slot → IsStart (IsWriteOf (operations key) value) slot

-- the first duplicate write of a key, or that there is none and these are the starts of its writes
abbrev pub AreWrites : KeyOps → List (Option ℕ) → Option ℕ → Type 0
AreWrites key starts (Some rec) = IsDuplicateKey (operations key) rec
AreWrites key starts None = AreStarts key starts
