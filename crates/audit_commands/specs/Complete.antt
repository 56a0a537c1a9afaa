-- Which status a call ends with, where nothing fails, memory is ample, and files are told if the words name any.
use Rattle.std.specs.Prelude.{◌≡◌, ◌⊎◌, ℕ, nat_lt, if◌then◌else◌, List, length, Option, Some, None, IfSome, IsSomeAnd, Result, Ok, Err}
use Rattle.stale_model.specs.declared.KeyOps.{KeyOps}
use Rattle.stale_model.specs.declared.History.{History}
use Rattle.stale_model.specs.declared.Verdict.{Verdict}
use Rattle.stale_model.specs.Truth.{EachKeyHas}
use Rattle.stale_model.specs.Shown.{IsShown}
use Rattle.stale_model.specs.declared.store.Settings.{Settings}
use Rattle.stale_model.specs.RecordedRuns.{IsRecordedRun}
use Rattle.history_csv.specs.declared.HistoryFault.{HistoryFault}
use Rattle.history_csv.specs.Reading as history
use Rattle.cert_text.specs.declared.CertFault.{CertFault}
use Rattle.cert_text.specs.Reading as certificate
use Rattle.quorum_client.specs.Plans.{plan_for}
use Rattle.trace_check.specs.declared.trace.Trace.{Trace}
use Rattle.trace_check.specs.declared.reading.TraceFault.{TraceFault}
use Rattle.trace_check.specs.Reading.{trace_of}
use Rattle.audit_ports.specs.Shelf.{Files, Rose, file_at}
use Rattle.audit_words.specs.declared.Task.{Task}
use Rattle.audit_words.specs.declared.Task.TheVariants.{Judge, Check, Gen, Trial, Trace as TraceTask}
use Rattle.audit_words.specs.Tasks.{task_of}
use Rattle.audit_commands.specs.declared.status.Status.{Status}
use Rattle.audit_commands.specs.declared.status.Status.TheVariants as status
use Rattle.audit_commands.specs.Status.{number}
use Rattle.audit_commands.specs.Audit.{history_limit, cert_limit, journal_limit, history_file}
use Rattle.audit_commands.specs.Ends.{Outside}

-- no read failed in the call, and no write
pub record NothingFailed (old new : Outside) : Type 0 where
  pub reads : Rose old.shelf.read_faults new.shelf.read_faults → ⊥
  pub writes : Rose old.shelf.write_faults new.shelf.write_faults → ⊥
  pub out : Rose old.out.faults new.out.faults → ⊥

-- the bytes of an input, or the status of a file that isn't there or is longer than its limit
abbrev pub input_in : ℕ → Option (List ℕ) → Result (List ℕ) Status
input_in limit None = Err status.Missing
input_in limit (Some bytes) = if nat_lt limit (length bytes) then Err status.TooLong else Ok bytes

-- the history that was read, or the status of its fault
abbrev pub history_or_status : Result History HistoryFault → Result History Status
history_or_status (Ok h) = Ok h
history_or_status (Err fault) = Err status.HistoryRefused

-- the history in a file, or the status that the file asks for
abbrev pub history_in_bytes : Result (List ℕ) Status → Result History Status
history_in_bytes (Ok bytes) = history_or_status (history.read_of bytes)
history_in_bytes (Err s) = Err s

-- the verdicts that were read, or the status of their fault
abbrev pub verdicts_or_status : Result (List Verdict) CertFault → Result (List Verdict) Status
verdicts_or_status (Ok verdicts) = Ok verdicts
verdicts_or_status (Err fault) = Err status.CertRefused

-- the verdicts in a file, of so many keys, or the status that the file asks for
abbrev pub verdicts_in_bytes : ℕ → Result (List ℕ) Status → Result (List Verdict) Status
verdicts_in_bytes keys (Ok bytes) = verdicts_or_status (certificate.read_of keys bytes)
verdicts_in_bytes keys (Err s) = Err s

-- done where each verdict of these keys is shown, and not shown where some isn't
abbrev pub VerdictsAsk : List KeyOps → Result (List Verdict) Status → Status → Type 0
VerdictsAsk keys (Err s) asked = asked ≡ s
VerdictsAsk keys (Ok verdicts) asked =
    ((asked ≡ status.Done) × EachKeyHas IsShown keys verdicts) ⊎ ((asked ≡ status.NotShown) × (EachKeyHas IsShown keys verdicts → ⊥))

-- what the history and the certificate's file of a check ask for
abbrev pub CheckAsks : Result History Status → Option (List ℕ) → Status → Type 0
CheckAsks (Err s) content asked = asked ≡ s
CheckAsks (Ok h) content asked = VerdictsAsk h.keys (verdicts_in_bytes (length h.keys) (input_in cert_limit content)) asked

-- the trace that was read, or the status of its fault
abbrev pub trace_or_status : Result Trace TraceFault → Result Trace Status
trace_or_status (Ok trace) = Ok trace
trace_or_status (Err fault) = Err status.TraceRefused

-- the trace in two files, or the status that the files ask for, the history first
abbrev pub trace_in_bytes : Settings → Result (List ℕ) Status → Result (List ℕ) Status → Result Trace Status
trace_in_bytes settings (Err s) journal = Err s
trace_in_bytes settings (Ok calls) (Err s) = Err s
trace_in_bytes settings (Ok calls) (Ok lines) = trace_or_status (trace_of settings calls lines)

-- the trace in the files of these names, or the status that the files ask for
abbrev pub trace_in : Files → List ℕ → List ℕ → Settings → Result Trace Status
trace_in files history journal settings =
    trace_in_bytes settings (input_in history_limit (file_at files history)) (input_in journal_limit (file_at files journal))

-- done where a trace is a recorded run of the plan of these settings, and not shown where it isn't
abbrev pub TraceAsks : Settings → Result Trace Status → Status → Type 0
TraceAsks settings (Err s) asked = asked ≡ s
TraceAsks settings (Ok trace) asked =
    ((asked ≡ status.Done) × IsRecordedRun settings (plan_for settings) trace.entries trace.journals)
    ⊎ ((asked ≡ status.NotShown) × (IsRecordedRun settings (plan_for settings) trace.entries trace.journals → ⊥))

-- what a history asks for that is judged, whatever the measure
abbrev pub JudgeAsks : Result History Status → Status → Type 0
JudgeAsks (Err s) asked = asked ≡ s
JudgeAsks (Ok h) asked = asked ≡ status.Done

-- the history in the file of this name, or the status that the file asks for
abbrev pub history_in : Files → List ℕ → Result History Status
history_in files name = history_in_bytes (input_in history_limit (file_at files name))

-- the status that a task asks for over these files
abbrev pub Asks : Files → Task → Status → Type 0
Asks files (Judge file measure) asked = JudgeAsks (history_in files file) asked
Asks files (Check file cert) asked = CheckAsks (history_in files file) (file_at files cert) asked
Asks files (Gen workload) asked = asked ≡ status.Done
Asks files (Trial workload workers) asked = asked ≡ status.Done
Asks files (TraceTask history journal settings) asked = TraceAsks settings (trace_in files history journal settings) asked

-- the status that words ask for over these files
abbrev pub WordsAsk : Files → Option Task → Status → Type 0
WordsAsk files None asked = asked ≡ status.WordsRefused
WordsAsk files (Some task) asked = Asks files task asked

-- where nothing failed, the status is the one that words and files ask for, or want of memory; words that name no history ask for done, whether
-- files are told or not
pub record IsComplete (words : List (List ℕ)) (old new : Outside) (answer : ℕ) : Type 0 where
  pub told : IfSome old.shelf.files (λ files. NothingFailed old new
      → ((asked : Status) × WordsAsk files (task_of words) asked × (answer ≡ number asked)) ⊎ (answer ≡ number status.OutOfMemory))
  pub untold : IsSomeAnd (task_of words) (λ task. history_file task ≡ None) → (Rose old.out.faults new.out.faults → ⊥)
      → (answer ≡ number status.Done) ⊎ (answer ≡ number status.OutOfMemory)
