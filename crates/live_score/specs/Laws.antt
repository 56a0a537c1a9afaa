-- Laws of the score while operations come in.
use Rattle.std.specs.Prelude.{◌≡◌, ◌↔◌, ℕ, ◌<◌, ◌≤◌, List, ◌∷◌, ◌++◌, All, Some, None}
use Rattle.std.specs.List.Sorted.{IsPermutation}
use Rattle.stale_model.specs.declared.Op.{Op}
use Rattle.stale_model.specs.declared.KeyOps.{KeyOps}
use Rattle.stale_model.specs.Operations.{IsRead, initial_write, operations, earliest_start, latest_finish}
use Rattle.stale_model.specs.Valid.{IsValidOp, IsValidKey}
use Rattle.stale_model.specs.Faults.{IsWriteOf, IsMatchedKey}
use Rattle.stale_model.specs.NamedWrites.{WritesDiffer}
use Rattle.stale_model.specs.LeastDelta.{IsLeastDelta, HasNoDelta}
use Rattle.stale_model.specs.Counted.{IsScore, waiting}
use Rattle.live_score.specs.Feeding.{LiveView, CanBeFed}

-- the score never falls while more operations come in, where none writes a value that was written before
abbrev pub ScoresNeverFall : Type 0
ScoresNeverFall = (fed more : List Op) (d e : ℕ) → WritesDiffer (initial_write ∷ (fed ++ more)) → IsScore fed (Some d) → IsScore (fed ++ more) (Some e) → d ≤ e

-- and once there is none it stays so
abbrev pub NoScoreComesBack : Type 0
NoScoreComesBack = (fed more : List Op) → WritesDiffer (initial_write ∷ (fed ++ more)) → IsScore fed None → IsScore (fed ++ more) None

-- a read that is fed after its write has not finished before the write starts
abbrev pub ReadsAfterTheirWritesAreNotEarly : Type 0
ReadsAfterTheirWritesAreNotEarly = (live : LiveView) (w r : Op) → All (IsValidOp live.values) live.fed → CanBeFed live r → IsRead r → IsWriteOf (initial_write ∷ live.fed) r.value w
    → latest_finish r < earliest_start w → ⊥

-- all operations of a key were fed: the score is the least delta of the key, there is none exactly where it has none, and no read waits
pub record HasScoreOfKey (key : KeyOps) (fed : List Op) : Type 0 where
  pub least : (d : ℕ) → IsScore fed (Some d) ↔ IsLeastDelta (operations key) 1 d
  pub none : IsScore fed None ↔ HasNoDelta (operations key) 1
  pub none_waits : waiting fed ≡ 0

-- so it is at the end of a valid key that is neither duplicate nor unmatched, in whatever order its operations were fed
abbrev pub LastScoresAreOfKeys : Type 0
LastScoresAreOfKeys = (key : KeyOps) (fed : List Op) → IsValidKey key → IsMatchedKey (operations key) → IsPermutation key.ops fed → HasScoreOfKey key fed
