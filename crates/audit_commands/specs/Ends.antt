-- How a call of the program ends: what each status means.
use Rattle.std.specs.Prelude.{◌≡◌, ◌≢◌, ◌⊎◌, ℕ, ◌≤◌, List, Option, Some, None, Ok, Err, IsSomeAnd, length}
use Rattle.stale_model.specs.declared.History.{History}
use Rattle.stale_model.specs.declared.Verdict.{Verdict}
use Rattle.stale_model.specs.declared.store.Settings.{Settings}
use Rattle.stale_model.specs.RecordedRuns.{IsRecordedRun}
use Rattle.stale_model.specs.Truth.{EachKeyHas, IsTrueOf}
use Rattle.stale_model.specs.Shown.{IsShown}
use Rattle.history_csv.specs.declared.HistoryFault.{HistoryFault}
use Rattle.cert_text.specs.declared.CertFault.{CertFault}
use Rattle.cert_checker.specs.declared.Checked.{Checked}
use Rattle.cert_checker.specs.declared.Checked.TheVariants as checked
use Rattle.cert_checker.specs.KeyFaults.{IsFirstBad, FindsAll}
use Rattle.quorum_client.specs.Plans.{plan_for}
use Rattle.trace_check.specs.declared.trace.Trace.{Trace}
use Rattle.trace_check.specs.declared.judging.Part.{Part}
use Rattle.trace_check.specs.declared.judging.Part.TheVariants as part
use Rattle.trace_check.specs.declared.reading.TraceFault.{TraceFault}
use Rattle.trace_check.specs.Parts.{IsFirstFailing, IsPartOf}
use Rattle.audit_ports.specs.Shelf.{Shown, Files, KeepsCounts, Misses, FailsReading, WhereTold, file_at}
use Rattle.audit_ports.specs.Sink.{SinkShown}
use Rattle.audit_words.specs.declared.Task.{Task}
use Rattle.audit_words.specs.declared.Task.TheVariants.{Judge, Check, Gen, Trial, Trace as TraceTask}
use Rattle.audit_words.specs.declared.Measure.{Measure}
use Rattle.audit_words.specs.Tasks.{task_of}
use Rattle.audit_commands.specs.declared.status.Status.{Status}
use Rattle.audit_commands.specs.declared.status.Status.TheVariants as status
use Rattle.audit_commands.specs.Status.{number}
use Rattle.audit_commands.specs.declared.texts.Texts.{Texts}
use Rattle.audit_commands.specs.Input.{IsTooLong}
use Rattle.command_outputs.specs.Output.{WritesWhole, WritesPart}
use Rattle.audit_commands.specs.Output.{WritesNamed, WritesNamedPart}
use Rattle.audit_commands.specs.Audit.{TakesHistory, IsFaultOf, IsCertFaultOf, TakesBoth, TakesRun, AreTextsOf, Input, IsInput, cert_file, history_file, judged_file, output_file}
use Rattle.audit_commands.specs.Generated.{GenDone, TrialDone, GenUnwritten, TrialUnwritten}
use Rattle.command_outputs.specs.Lines.{SaysLine, write_failed_line, memory_line}
use Rattle.audit_commands.specs.Lines.{check_line, part_line, words_line, fault_line, cert_fault_line, trace_fault_line, missing_line, too_long_line, read_failed_line}

-- what is known of the outside: of the shelf, of the output and of the error output
pub record Outside : Type 0 where
  pub shelf : Shown
  pub out : SinkShown
  pub err : SinkShown

-- the outside of these three
abbrev pub outside : Shown → SinkShown → SinkShown → Outside
outside shelf out err = record { shelf = shelf; out = out; err = err }

-- every file but this one is as before
abbrev pub KeepsOthers : Option (List ℕ) → Option Files → Option Files → Type 0
KeepsOthers None old new = new ≡ old
KeepsOthers (Some name) old new =
    WhereTold (λ (o n : Files). (other : List ℕ) → other ≢ name → file_at n other ≡ file_at o other) old new

-- the file that the words name for output, if they do
abbrev pub named_output : Option Task → Option (List ℕ)
named_output None = None
named_output (Some task) = output_file task

-- the file that the words name for a history, if they do
abbrev pub named_history : Option Task → Option (List ℕ)
named_history None = None
named_history (Some task) = history_file task

-- every file but this output is as before, no count fell, and nothing is being written
pub record KeepsShelf (output : Option (List ℕ)) (old new : Shown) : Type 0 where
  pub files : KeepsOthers output old.files new.files
  pub read_faults : old.read_faults ≤ new.read_faults
  pub write_faults : old.write_faults ≤ new.write_faults
  pub misses : old.misses ≤ new.misses
  pub writing : new.writing ≡ None

-- every file but the output that the words name is as before, and no count fell; where the words name no history, the shelf is wholly as it was
pub record KeepsOutside (words : List (List ℕ)) (old new : Outside) : Type 0 where
  pub shelf : KeepsShelf (named_output (task_of words)) old.shelf new.shelf
  pub untouched : named_history (task_of words) ≡ None → new.shelf ≡ old.shelf
  pub out : old.out.faults ≤ new.out.faults
  pub err : old.err.faults ≤ new.err.faults

-- refused before any output: files and output are as they were, and the error output gained this line
pub record Refuses (line : List ℕ) (old new : Outside) : Type 0 where
  pub files : new.shelf.files ≡ old.shelf.files
  pub out : new.out ≡ old.out
  pub says : SaysLine line old.err new.err

-- the history in this file was taken, and these texts are what is written of it by this measure
pub record IsJudged (file : List ℕ) (measure : Measure) (old new : Shown) (texts : Texts) : Type 0 where
  pub h : History
  pub input : TakesHistory file old new h
  pub are_texts : AreTextsOf measure h texts

-- a history was judged: the certificate was written where the measure names a file for it, then the output gained the text of the measure
pub record JudgeDone (file : List ℕ) (measure : Measure) (old new : Shown) (out out' : SinkShown) : Type 0 where
  pub taken : Shown
  pub texts : Texts
  pub judged : IsJudged file measure old taken texts
  pub certificate : WritesNamed (cert_file measure) texts.cert taken new
  pub output : WritesWhole texts.output out out'

-- a check was done: the certificate shows each verdict that it says, so they are true, and the output gained `good`
pub record CheckDone (file cert : List ℕ) (old new : Shown) (out out' : SinkShown) : Type 0 where
  pub h : History
  pub verdicts : List Verdict
  pub inputs : TakesBoth file cert old new h verdicts
  pub truth : EachKeyHas IsTrueOf h.keys verdicts
  pub shown : EachKeyHas IsShown h.keys verdicts
  pub line : WritesWhole (check_line checked.Good) out out'

-- a trace is good: the files that were taken are a recorded run of the plan of its settings, and the output gained `good`
pub record TraceDone (history journal : List ℕ) (settings : Settings) (old new : Shown) (out out' : SinkShown) : Type 0 where
  pub trace : Trace
  pub taken : TakesRun history journal settings old new (Ok trace)
  pub recorded : IsRecordedRun settings (plan_for settings) trace.entries trace.journals
  pub line : WritesWhole (part_line part.Good) out out'

-- what a task asks for was done
abbrev pub IsDone : Task → Shown → Shown → SinkShown → SinkShown → Type 0
IsDone (Judge file measure) old new out out' = JudgeDone file measure old new out out'
IsDone (Check file cert) old new out out' = CheckDone file cert old new out out'
IsDone (Gen workload) old new out out' = GenDone workload old new out out'
IsDone (Trial workload workers) old new out out' = TrialDone workload old new out out'
IsDone (TraceTask history journal settings) old new out out' = TraceDone history journal settings old new out out'

-- done, as the words ask
pub record EndsDone (words : List (List ℕ)) (old new : Outside) : Type 0 where
  pub task : Task
  pub asked : task_of words ≡ Some task
  pub done : IsDone task old.shelf new.shelf old.out new.out
  pub err : new.err ≡ old.err

-- some verdict of the certificate isn't shown: the output gained the line on the first one
pub record CheckFails (file cert : List ℕ) (old new : Shown) (out out' : SinkShown) : Type 0 where
  pub h : History
  pub verdicts : List Verdict
  pub inputs : TakesBoth file cert old new h verdicts
  pub not_shown : EachKeyHas IsShown h.keys verdicts → ⊥
  pub key : ℕ
  pub rule : ℕ
  pub rec : ℕ
  pub first : IsFirstBad h.keys verdicts key rule rec
  pub line : WritesWhole (check_line (checked.Bad key rule rec)) out out'

-- the files that were taken are no recorded run of the plan of these settings: the output gained the line on the first part that fails
pub record TraceFails (history journal : List ℕ) (settings : Settings) (old new : Shown) (out out' : SinkShown) : Type 0 where
  pub trace : Trace
  pub taken : TakesRun history journal settings old new (Ok trace)
  pub failing : ℕ
  pub first : IsFirstFailing settings (plan_for settings) trace failing
  pub line : WritesWhole (part_line (part.Bad failing)) out out'

-- what the files of a task say does not hold: of a check and of a trace alone
abbrev pub IsNotShown : Task → Shown → Shown → SinkShown → SinkShown → Type 0
IsNotShown (Judge file measure) old new out out' = ⊥
IsNotShown (Check file cert) old new out out' = CheckFails file cert old new out out'
IsNotShown (Gen workload) old new out out' = ⊥
IsNotShown (Trial workload workers) old new out out' = ⊥
IsNotShown (TraceTask history journal settings) old new out out' = TraceFails history journal settings old new out out'

-- some verdict of the certificate that the words name isn't shown, or the run that they name is none
pub record EndsNotShown (words : List (List ℕ)) (old new : Outside) : Type 0 where
  pub task : Task
  pub asked : task_of words ≡ Some task
  pub fails : IsNotShown task old.shelf new.shelf old.out new.out
  pub err : new.err ≡ old.err

-- the words are refused: nothing was done, and the line says so
pub record EndsWordsRefused (words : List (List ℕ)) (old new : Outside) : Type 0 where
  pub none : task_of words ≡ None
  pub shelf : new.shelf ≡ old.shelf
  pub refuses : Refuses words_line old new

-- the history that the words name is refused by its fault, which the line says
pub record EndsHistoryRefused (words : List (List ℕ)) (old new : Outside) : Type 0 where
  pub task : Task
  pub asked : task_of words ≡ Some task
  pub file : List ℕ
  pub file_is : judged_file task ≡ Some file
  pub fault : HistoryFault
  pub fault_is : IsFaultOf file old.shelf new.shelf fault
  pub refuses : IsSomeAnd (fault_line fault) (λ line. Refuses line old new)

-- the certificate that the words name is refused by its fault, which the line says
pub record EndsCertRefused (words : List (List ℕ)) (old new : Outside) : Type 0 where
  pub file : List ℕ
  pub cert : List ℕ
  pub asked : task_of words ≡ Some (Check file cert)
  pub taken : Shown
  pub h : History
  pub history : TakesHistory file old.shelf taken h
  pub fault : CertFault
  pub fault_is : IsCertFaultOf cert (length h.keys) taken new.shelf fault
  pub refuses : IsSomeAnd (cert_fault_line fault) (λ line. Refuses line old new)

-- the two files of the run that the words name are refused by their first line at fault, which the line says
pub record EndsTraceRefused (words : List (List ℕ)) (old new : Outside) : Type 0 where
  pub history : List ℕ
  pub journal : List ℕ
  pub settings : Settings
  pub asked : task_of words ≡ Some (TraceTask history journal settings)
  pub fault : TraceFault
  pub fault_is : TakesRun history journal settings old.shelf new.shelf (Err fault)
  pub refuses : IsSomeAnd (trace_fault_line fault) (λ line. Refuses line old new)

-- an input that the words and the line name is missing, and those before it have no fault
pub record EndsMissing (words : List (List ℕ)) (old new : Outside) : Type 0 where
  pub task : Task
  pub asked : task_of words ≡ Some task
  pub input : Input
  pub input_is : IsInput task old.shelf input
  pub misses : Misses input.name input.before new.shelf
  pub refuses : Refuses (missing_line input.name) old new

-- a read failed, for words that name a history
pub record EndsReadFailed (words : List (List ℕ)) (old new : Outside) : Type 0 where
  pub file : List ℕ
  pub file_is : named_history (task_of words) ≡ Some file
  pub fails : FailsReading old.shelf new.shelf
  pub refuses : Refuses read_failed_line old new

-- a call of writing the named certificate failed, and then no other output was begun; or one of writing the text of the measure
pub record JudgeUnwritten (file : List ℕ) (measure : Measure) (old new : Shown) (out out' : SinkShown) : Type 0 where
  pub taken : Shown
  pub texts : Texts
  pub judged : IsJudged file measure old taken texts
  pub fails : (WritesNamedPart (cert_file measure) texts.cert taken new × (out' ≡ out))
      ⊎ (WritesNamed (cert_file measure) texts.cert taken new × WritesPart texts.output out out')

-- a call of writing the line of a check failed
pub record CheckUnwritten (file cert : List ℕ) (old new : Shown) (out out' : SinkShown) : Type 0 where
  pub h : History
  pub verdicts : List Verdict
  pub inputs : TakesBoth file cert old new h verdicts
  pub found : Checked
  pub finds : FindsAll h.keys verdicts found
  pub line : WritesPart (check_line found) out out'

-- a call of writing the line of a trace failed
pub record TraceUnwritten (history journal : List ℕ) (settings : Settings) (old new : Shown) (out out' : SinkShown) : Type 0 where
  pub trace : Trace
  pub taken : TakesRun history journal settings old new (Ok trace)
  pub found : Part
  pub finds : IsPartOf settings (plan_for settings) trace found
  pub line : WritesPart (part_line found) out out'

-- what a task asks for was made, and not, or not wholly, written
abbrev pub IsUnwritten : Task → Shown → Shown → SinkShown → SinkShown → Type 0
IsUnwritten (Judge file measure) old new out out' = JudgeUnwritten file measure old new out out'
IsUnwritten (Check file cert) old new out out' = CheckUnwritten file cert old new out out'
IsUnwritten (Gen workload) old new out out' = GenUnwritten workload old new out out'
IsUnwritten (Trial workload workers) old new out out' = TrialUnwritten workload old new out out'
IsUnwritten (TraceTask history journal settings) old new out out' = TraceUnwritten history journal settings old new out out'

-- a write failed, and the line says so
pub record EndsWriteFailed (words : List (List ℕ)) (old new : Outside) : Type 0 where
  pub task : Task
  pub asked : task_of words ≡ Some task
  pub unwritten : IsUnwritten task old.shelf new.shelf old.out new.out
  pub says : SaysLine write_failed_line old.err new.err

-- an input that the words and the line name is longer than its limit, and those before it have no fault
pub record EndsTooLong (words : List (List ℕ)) (old new : Outside) : Type 0 where
  pub task : Task
  pub asked : task_of words ≡ Some task
  pub input : Input
  pub input_is : IsInput task old.shelf input
  pub too_long : IsTooLong input.limit input.name input.before new.shelf
  pub refuses : Refuses (too_long_line input.name) old new

-- memory was wanting, before any output: no count of the shelf changed
pub record EndsOutOfMemory (old new : Outside) : Type 0 where
  pub counts : KeepsCounts old.shelf new.shelf
  pub refuses : Refuses memory_line old new

-- what a status means
abbrev pub Ends : List (List ℕ) → Outside → Outside → Status → Type 0
Ends words old new status.Done = EndsDone words old new
Ends words old new status.NotShown = EndsNotShown words old new
Ends words old new status.WordsRefused = EndsWordsRefused words old new
Ends words old new status.HistoryRefused = EndsHistoryRefused words old new
Ends words old new status.CertRefused = EndsCertRefused words old new
Ends words old new status.Missing = EndsMissing words old new
Ends words old new status.ReadFailed = EndsReadFailed words old new
Ends words old new status.WriteFailed = EndsWriteFailed words old new
Ends words old new status.TooLong = EndsTooLong words old new
Ends words old new status.OutOfMemory = EndsOutOfMemory old new
Ends words old new status.TraceRefused = EndsTraceRefused words old new

-- the call ended as this number of a status means
pub record EndsAs (words : List (List ℕ)) (old new : Outside) (answer : ℕ) : Type 0 where
  pub status : Status
  pub number_is : answer ≡ number status
  pub ends : Ends words old new status
