-- The operations of a key that were fed, and what each more is answered.
use Rattle.std.specs.Prelude.{◌≡◌, ◌≢◌, ℕ, ◌≤◌, ◌<◌, List, [], ◌∷◌, ◌++◌, length, All, false}
use Rattle.stale_model.specs.declared.Op.{Op}
use Rattle.stale_model.specs.Operations.{IsRead, IsWrite, initial_write, latest_finish}
use Rattle.stale_model.specs.Valid.{IsValidOp}
use Rattle.stale_model.specs.Faults.{IsWriteOf}
use Rattle.stale_model.specs.Counted.{counts}
use Rattle.live_score.specs.declared.live.Fed.{Fed}
use Rattle.live_score.specs.declared.live.Fed.TheVariants.{Counted, Waiting, Duplicate}

-- what is known of a score: the operations that were fed, in their order, how many may be, and the greatest number of a value
pub record LiveView : Type 0 where
  pub fed : List Op
  pub places : ℕ
  pub values : ℕ

-- nothing was fed
abbrev pub nothing_fed : ℕ → ℕ → LiveView
nothing_fed places values = record { fed = []; places = places; values = values }

-- an operation may be fed: a place is left, its numbers are valid, its record wasn't fed, and none that was finishes after it
pub record CanBeFed (live : LiveView) (op : Op) : Type 0 where
  pub room : length live.fed < live.places
  pub valid : IsValidOp live.values op
  pub new_record : All (λ a. a.rec ≢ op.rec) live.fed
  pub last : All (λ a. latest_finish a ≤ latest_finish op) live.fed

-- op writes a value that this record wrote before it, of the initial write or of what was fed
pub record IsSecondWrite (fed : List Op) (op : Op) (rec : ℕ) : Type 0 where
  pub kind : IsWrite op
  pub first : (w : Op) × IsWriteOf (initial_write ∷ fed) op.value w × (w.rec ≡ rec)

-- op is a read whose value was not written yet
pub record IsEarlyFed (fed : List Op) (op : Op) : Type 0 where
  pub kind : IsRead op
  pub unwritten : counts fed op ≡ false

-- the answer to an operation after these
abbrev pub IsFedAs : List Op → Op → Fed → Type 0
IsFedAs fed op (Duplicate rec) = IsSecondWrite fed op rec
IsFedAs fed op Waiting = IsEarlyFed fed op
IsFedAs fed op Counted = ((rec : ℕ) → IsSecondWrite fed op rec → ⊥) × (IsEarlyFed fed op → ⊥)

-- what was fed after an operation with this answer: a second write of a value is left out
abbrev pub fed_after : List Op → Op → Fed → List Op
fed_after fed op (Duplicate rec) = fed
fed_after fed op _ = fed ++ op ∷ []
