-- How a call ends where the words ask for no bench: as `run_offline` does.
use Rattle.std.specs.Prelude.{◌≡◌, ◌⊎◌, ℕ, List, None}
use Rattle.audit_words.specs.Tasks.{task_of}
use Rattle.audit_commands.specs.declared.status.Status.TheVariants as status
use Rattle.audit_commands.specs.Status.{number}
use Rattle.audit_commands.specs.Ends.{Outside, EndsAs, KeepsOutside}
use Rattle.audit_commands.specs.Complete.{IsComplete}

-- all that is said of the end of a call of `run_offline`
pub record EndsOffline (words : List (List ℕ)) (old new : Outside) (answer : ℕ) : Type 0 where
  pub ends : EndsAs words old new answer
  pub words_refused : task_of words ≡ None → (answer ≡ number status.WordsRefused) ⊎ (answer ≡ number status.OutOfMemory)
  pub keeps : KeepsOutside words old new
  pub complete : IsComplete words old new answer
