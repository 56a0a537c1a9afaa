-- What `live` writes: after which operations the score of a key changed, and to what, and how many reads still wait for their write.
use Rattle.std.specs.Prelude.{◌≡◌, ℕ, ◌+◌, ◌<◌, ◌==◌, if◌then◌else◌, ◌⊎◌, List, [], ◌∷◌, ◌++◌, codes, length, map, take, flat_map, sum_by, Option, Some, None, slice_get, AllPairs}
use Rattle.std.specs.Fmt.{decimal}
use Rattle.std.specs.Option.{option_eq}
use Rattle.std.specs.List.Sorted.{IsPermutation}
use Rattle.stale_model.specs.declared.Op.{Op}
use Rattle.stale_model.specs.declared.KeyOps.{KeyOps}
use Rattle.stale_model.specs.declared.History.{History}
use Rattle.stale_model.specs.Operations.{initial_write, latest_finish}
use Rattle.stale_model.specs.Faults.{HasNone, IsDuplicate, IsDuplicateKey}
use Rattle.stale_model.specs.Counted.{IsScore, waiting}
use Rattle.stale_model.specs.Truth.{EachKeyHas}
use Rattle.staleness_report.specs.Escaped.{escaped}
use Rattle.mode_texts.specs.declared.live.Change.{Change}
use Rattle.mode_texts.specs.declared.live.LiveVerdict.{LiveVerdict}
use Rattle.mode_texts.specs.declared.live.LiveVerdict.TheVariants.{Duplicate, Scored}
use Rattle.mode_texts.specs.Measures.{keys_text}

-- a is fed before b: it finishes before b, or with it and has the lesser record
abbrev pub FinishesFirst : Op → Op → Type 0
FinishesFirst a b = (latest_finish a < latest_finish b) ⊎ ((latest_finish a ≡ latest_finish b) × (a.rec < b.rec))

-- these are the operations, in the order in which they finish
pub record IsByFinish (ops sorted : List Op) : Type 0 where
  pub same : IsPermutation ops sorted
  pub by_finish : AllPairs FinishesFirst sorted

-- the score after each of the operations that were fed
pub record AreScores (fed : List Op) (scores : List (Option ℕ)) : Type 0 where
  pub as_many : length scores ≡ length fed
  pub each : (n : ℕ) (score : Option ℕ) → slice_get scores n ≡ Some score → IsScore (take (n + 1) fed) score

-- the operations after which the score differs from the one before, each with its score
abbrev pub changes_of : Option ℕ → List Op → List (Option ℕ) → List Change
changes_of before [] scores = []
changes_of before (a ∷ fed) [] = []
changes_of before (a ∷ fed) (score ∷ scores) =
    (if option_eq (λ x y. x == y) score before then [] else record { rec = a.rec; score = score } ∷ []) ++ changes_of score fed scores

-- the changes and the waiting reads are those of the operations in the order in which they finish, from the score 0 on
pub record IsScored (ops : List Op) (changes : List Change) (reads : ℕ) : Type 0 where
  pub no_duplicate : HasNone (IsDuplicate ops)
  pub fed : List Op
  pub by_finish : IsByFinish ops (initial_write ∷ fed)
  pub scores : List (Option ℕ)
  pub are_scores : AreScores fed scores
  pub changes_are : changes ≡ changes_of (Some 0) fed scores
  pub waiting_is : reads ≡ waiting fed

-- what is said of a key is true
abbrev pub IsLiveVerdict : List Op → LiveVerdict → Type 0
IsLiveVerdict ops (Duplicate rec) = IsDuplicateKey ops rec
IsLiveVerdict ops (Scored changes reads) = IsScored ops changes reads

-- a score, or that there is none
abbrev pub score_text : Option ℕ → List ℕ
score_text None = codes " infinite"
score_text (Some d) = codes " delta " ++ decimal d

-- what is said of a change
abbrev pub change_text : Change → List ℕ
change_text change = codes "record " ++ decimal change.rec ++ score_text change.score

-- what is said of the reads that wait, where there are any
abbrev pub waiting_texts : ℕ → List (List ℕ)
waiting_texts reads = if reads == 0 then [] else (codes "waiting " ++ decimal reads) ∷ []

-- what is said of a key, one text for each line
abbrev pub said_of : LiveVerdict → List (List ℕ)
said_of (Duplicate rec) = (codes "duplicate " ++ decimal rec) ∷ []
said_of (Scored changes reads) = map change_text changes ++ waiting_texts reads

-- a line: the name of the key, and what is said of it
abbrev pub key_line : KeyOps → List ℕ → List ℕ
key_line key said = codes "key " ++ escaped key.name ++ codes " " ++ said ++ codes "\n"

-- the lines of a key
abbrev pub live_key_text : KeyOps → LiveVerdict → List ℕ
live_key_text key verdict = flat_map (λ said. key_line key said) (said_of verdict)

-- the last line, for the number of lines before it
abbrev pub lines_line : ℕ → List ℕ
lines_line lines = codes "total lines " ++ decimal lines ++ codes "\n"

-- how many lines the keys have
abbrev pub lines_of : List LiveVerdict → ℕ
lines_of verdicts = sum_by (λ verdict. length (said_of verdict)) verdicts

-- what is written for these verdicts
abbrev pub live_text : List KeyOps → List LiveVerdict → List ℕ
live_text keys verdicts = keys_text live_key_text keys verdicts ++ lines_line (lines_of verdicts)

-- the text is what `live` writes of the history, and all that it says is true
pub record IsLiveText (history : History) (text : List ℕ) : Type 0 where
  pub verdicts : List LiveVerdict
  pub true_of : EachKeyHas IsLiveVerdict history.keys verdicts
  pub text_is : text ≡ live_text history.keys verdicts
