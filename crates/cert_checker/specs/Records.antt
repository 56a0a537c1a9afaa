-- Operations by their records.
use Rattle.std.specs.Prelude.{◌≡◌, ℕ, List, Option, Some, None}
use Rattle.stale_model.specs.declared.Op.{Op}
use Rattle.stale_model.specs.Orders.{StandsAt}
use Rattle.stale_model.specs.Refutations.{IsOfRecord}
use Rattle.cert_checker.specs.declared.records.Placed.{Placed}

-- the operation has this record, and stands at this place
pub record IsPlaced (ops : List Op) (rec : ℕ) (placed : Placed) : Type 0 where
  pub there : StandsAt ops placed.place placed.op
  pub record_is : placed.op.rec ≡ rec

-- the operation with this record, or that there is none
abbrev pub IsFound : List Op → ℕ → Option Placed → Type 0
IsFound ops rec None = (a : Op) → IsOfRecord ops rec a → ⊥
IsFound ops rec (Some placed) = IsPlaced ops rec placed
