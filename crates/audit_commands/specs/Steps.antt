-- Definitions that serve the code alone: the steps of a command.
use Rattle.std.specs.Prelude.{◌≡◌, ℕ, List, length, take, Some, Ok, IfSome, IsSome}
use Rattle.stale_model.specs.declared.History.{History}
use Rattle.stale_model.specs.declared.Verdict.{Verdict}
use Rattle.stale_model.specs.declared.store.Settings.{Settings}
use Rattle.quorum_client.specs.Plans.{plan_for}
use Rattle.trace_check.specs.declared.trace.Trace.{Trace}
use Rattle.trace_check.specs.declared.judging.Part.{Part}
use Rattle.trace_check.specs.declared.judging.Part.TheVariants as part
use Rattle.trace_check.specs.Parts.{IsPartOf}
use Rattle.audit_ports.specs.Shelf.{Shown, KeepsFiles, KeepsCounts, file_at}
use Rattle.audit_ports.specs.Sink.{SinkShown}
use Rattle.audit_ports.specs.declared.OpenFault.{OpenFault}
use Rattle.audit_ports.specs.declared.OpenFault.TheVariants as opening
use Rattle.stale_model.specs.Valid.{IsValidHistory}
use Rattle.cert_checker.specs.declared.Checked.{Checked}
use Rattle.cert_checker.specs.declared.Checked.TheVariants as checked
use Rattle.cert_checker.specs.KeyFaults.{FindsAll}
use Rattle.audit_words.specs.declared.Task.{Task}
use Rattle.audit_commands.specs.declared.input.TakeFault.{TakeFault}
use Rattle.audit_commands.specs.declared.input.TakeFault.TheVariants as taking
use Rattle.audit_commands.specs.declared.status.Status.{Status}
use Rattle.audit_commands.specs.declared.status.Status.TheVariants as status
use Rattle.audit_commands.specs.Audit.{TakesBoth, TakesRun}
use Rattle.audit_commands.specs.Ends.{IsDone, IsNotShown}

-- the fault of taking that a fault of opening is
abbrev pub take_fault_of : OpenFault → TakeFault
take_fault_of opening.Missing = taking.Missing
take_fault_of opening.Failed = taking.Failed

-- files and what is being written are the same, and no count fell
pub record OnlyReads (old new : Shown) : Type 0 where
  pub keeps : KeepsFiles old new
  pub writing : new.writing ≡ old.writing

-- these bytes were taken so far of the open file of this name, and no count changed
pub record IsTaken (name : List ℕ) (bytes : List ℕ) (old new : Shown) : Type 0 where
  pub files : new.files ≡ old.files
  pub writing : new.writing ≡ old.writing
  pub counts : KeepsCounts old new
  pub reading : new.reading ≡ Some (record { name = name; place = length bytes })
  pub told : IfSome old.files (λ files. IfSome (file_at files name) (λ content. bytes ≡ take (length bytes) content))
  pub there : IfSome old.files (λ files. IsSome (file_at files name))

-- both inputs of a check were taken, and this is found of the verdicts
pub record FindsBoth (file cert : List ℕ) (old new : Shown) (found : Checked) : Type 0 where
  pub h : History
  pub verdicts : List Verdict
  pub inputs : TakesBoth file cert old new h verdicts
  pub valid : IsValidHistory h
  pub finds : FindsAll h.keys verdicts found

-- the status of what was found
abbrev pub status_of_check : Checked → Status
status_of_check checked.Good = status.Done
status_of_check (checked.Bad key rule rec) = status.NotShown

-- the two files of a run were taken, and this is the trace in them
abbrev pub IsTraceIn : (history journal : List ℕ) (settings : Settings) (old new : Shown) → Trace → Type 0
IsTraceIn history journal settings old new trace = TakesRun history journal settings old new (Ok trace)

-- the two files of a run were taken, and this is found of it
pub record FindsRun (history journal : List ℕ) (settings : Settings) (old new : Shown) (found : Part) : Type 0 where
  pub trace : Trace
  pub taken : TakesRun history journal settings old new (Ok trace)
  pub finds : IsPartOf settings (plan_for settings) trace found

-- the status of what was found of a run
abbrev pub status_of_part : Part → Status
status_of_part part.Good = status.Done
status_of_part (part.Bad number) = status.NotShown

-- what was done of a task, by the status
abbrev pub Performs : Task → Shown → Shown → SinkShown → SinkShown → Status → Type 0
Performs task old new out out' status.Done = IsDone task old new out out'
Performs task old new out out' status.NotShown = IsNotShown task old new out out'
Performs task old new out out' _ = ⊥
