-- What serves the code alone: what is known while the operations of a key are fed, and while the lines of the keys are written.
use Rattle.std.specs.Prelude.{◌≡◌, ℕ, List, [], ◌∷◌, ◌++◌, length, All, Option, Some, AllPairs}
use Rattle.stale_model.specs.declared.Op.{Op}
use Rattle.stale_model.specs.declared.KeyOps.{KeyOps}
use Rattle.stale_model.specs.Operations.{operations, initial_write}
use Rattle.stale_model.specs.Valid.{IsValidOp}
use Rattle.stale_model.specs.Faults.{HasNone, IsDuplicate}
use Rattle.stale_model.specs.NamedWrites.{RecordsDiffer}
use Rattle.stale_model.specs.Truth.{EachKeyHas}
use Rattle.mode_texts.specs.declared.live.Change.{Change}
use Rattle.mode_texts.specs.declared.live.LiveVerdict.{LiveVerdict}
use Rattle.mode_texts.specs.Measures.{keys_text}
use Rattle.mode_texts.specs.LiveTexts.{FinishesFirst, AreScores, changes_of, IsLiveVerdict, said_of, live_key_text, lines_of}

-- the operations can be fed one after the other: each is valid, none finishes before an earlier one, and none has the record of another, or writes what another wrote
pub record CanAllBeFed (values : ℕ) (ops : List Op) : Type 0 where
  pub valid : All (IsValidOp values) ops
  pub by_finish : AllPairs FinishesFirst (initial_write ∷ ops)
  pub records : RecordsDiffer (initial_write ∷ ops)
  pub once : HasNone (IsDuplicate (initial_write ∷ ops))

-- the score after the last operation; before the first it is 0
abbrev pub last_score : Option ℕ → List (Option ℕ) → Option ℕ
last_score before [] = before
last_score before (score ∷ scores) = last_score score scores

-- the changes along the operations that were fed, and the score after the last
pub record AreChangesSoFar (fed : List Op) (changes : List Change) (score : Option ℕ) : Type 0 where
  pub scores : List (Option ℕ)
  pub are_scores : AreScores fed scores
  pub changes_are : changes ≡ changes_of (Some 0) fed scores
  pub last_is : score ≡ last_score (Some 0) scores

-- the changes along all of the operations
pub record AreChanges (fed : List Op) (changes : List Change) : Type 0 where
  pub scores : List (Option ℕ)
  pub are_scores : AreScores fed scores
  pub changes_are : changes ≡ changes_of (Some 0) fed scores

-- the text is that of these keys, each with a verdict that is true of it, and has so many lines
pub record IsLiveWritten (keys : List KeyOps) (text : List ℕ) (lines : ℕ) : Type 0 where
  pub verdicts : List LiveVerdict
  pub true_of : EachKeyHas IsLiveVerdict keys verdicts
  pub text_is : text ≡ keys_text live_key_text keys verdicts
  pub lines_are : lines ≡ lines_of verdicts

-- one key more is written behind a text, with so many lines
pub record IsLiveWrittenBehind (key : KeyOps) (before after : List ℕ) (lines : ℕ) : Type 0 where
  pub verdict : LiveVerdict
  pub true_of : IsLiveVerdict (operations key) verdict
  pub text_is : after ≡ before ++ live_key_text key verdict
  pub lines_are : lines ≡ length (said_of verdict)
