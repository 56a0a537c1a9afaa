-- What serves the code alone: the counts of the last line, and what is written of the first keys.
use Rattle.std.specs.Prelude.{◌≡◌, ℕ, List, [], ◌∷◌, ◌++◌, length, map, count_by, Option}
use Rattle.stale_model.specs.declared.Op.{Op}
use Rattle.stale_model.specs.declared.KeyOps.{KeyOps}
use Rattle.stale_model.specs.Operations.{operations}
use Rattle.stale_model.specs.Truth.{EachKeyHas}
use Rattle.mode_texts.specs.declared.totals.Totals.{Totals}
use Rattle.mode_texts.specs.Totals.{is_zero, greatest_of}
use Rattle.mode_texts.specs.Measures.{keys_text}

-- the totals of the keys' numbers
abbrev pub totals_of : List (Option ℕ) → Totals
totals_of numbers = record { keys = length numbers; zero = count_by is_zero numbers; worst = greatest_of numbers }

-- the text is that of these keys, each with a verdict that is true of it, and the totals are those of the verdicts' numbers
pub record IsWritten {V : Type 0} (Says : List Op → V → Type 0) (key_text : KeyOps → V → List ℕ) (number_of : V → Option ℕ) (of : List KeyOps) (text : List ℕ) (totals : Totals) : Type 0 where
  pub verdicts : List V
  pub true_of : EachKeyHas Says of verdicts
  pub text_is : text ≡ keys_text key_text of verdicts
  pub totals_are : totals ≡ totals_of (map number_of verdicts)

-- one key more is written behind a text, and its number counted
pub record IsWrittenBehind {V : Type 0} (Says : List Op → V → Type 0) (key_text : KeyOps → V → List ℕ) (number_of : V → Option ℕ) (key : KeyOps)
    (before after : List ℕ) (counted counting : Totals) : Type 0 where
  pub verdict : V
  pub true_of : Says (operations key) verdict
  pub text_is : after ≡ before ++ key_text key verdict
  pub counts : (numbers : List (Option ℕ)) → counted ≡ totals_of numbers → counting ≡ totals_of (numbers ++ number_of verdict ∷ [])
