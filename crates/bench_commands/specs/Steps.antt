-- Definitions that serve the code alone: the steps of a bench.
use Rattle.std.specs.Prelude.{◌≡◌, ⊤, ℕ, ◌<◌, List, Ok, Err, Result, IfErr, OnOk, OnErr}
use Rattle.stale_model.specs.declared.History.{History}
use Rattle.stale_model.specs.declared.Verdict.{Verdict}
use Rattle.stale_model.specs.declared.store.Settings.{Settings}
use Rattle.stale_model.specs.Texts.{recorded_text, journal_text}
use Rattle.history_csv.specs.Reading as history
use Rattle.staleness_report.specs.Report.{report_text}
use Rattle.audit_ports.specs.Shelf.{Shown}
use Rattle.audit_ports.specs.Sink.{SinkShown}
use Rattle.audit_ports.specs.Crew.{CrewView}
use Rattle.audit_words.specs.declared.bench.Bench.{Bench}
use Rattle.command_outputs.specs.Lines.{SaysLine, write_failed_line, memory_line}
use Rattle.audit_commands.specs.Audit.{AreVerdicts}
use Rattle.bench_run.specs.Jobs.{JobView}
use Rattle.bench_run.specs.Drive.{IsRefusedAt}
use Rattle.bench_commands.specs.declared.status.BenchStatus.{BenchStatus}
use Rattle.bench_commands.specs.declared.status.BenchStatus.TheVariants as status
use Rattle.bench_commands.specs.declared.refusal.BenchRefusal.{BenchRefusal}
use Rattle.bench_commands.specs.declared.refusal.BenchRefusal.TheVariants as refusal
use Rattle.bench_commands.specs.declared.recording.Recording.{Recording}
use Rattle.bench_commands.specs.declared.texts.Texts.{Texts}
use Rattle.bench_commands.specs.Lines.{not_started_line}
use Rattle.bench_commands.specs.Outputs.{WritesAll, WritesSome}
use Rattle.bench_commands.specs.Ends.{BenchDone, BenchUnwritten, IsUnrefused}

-- why there is no recording: the crew refused this replica, or memory was wanting and it refused none
abbrev pub IsUnrecorded : Settings → CrewView JobView → CrewView JobView → BenchRefusal → Type 0
IsUnrecorded s crew crew' (refusal.NotStarted replica) = IsRefusedAt s.replicas replica crew crew'
IsUnrecorded s crew crew' refusal.WriteFailed = ⊥
IsUnrecorded s crew crew' refusal.Memory = IsUnrefused s.replicas crew crew'

-- this text reads as a history
abbrev pub IsHistoryText : List ℕ → Type 0
IsHistoryText text = (h : History) × (history.read_of text ≡ Ok h)

-- the report of the verdicts of the history that a text reads as
pub record IsReportOn (text report : List ℕ) : Type 0 where
  pub h : History
  pub verdicts : List Verdict
  pub reads : history.read_of text ≡ Ok h
  pub are_verdicts : AreVerdicts h verdicts
  pub report_is : report ≡ report_text h verdicts

-- the three texts of a recording
pub record AreTexts (r : Recording) (texts : Texts) : Type 0 where
  pub history : texts.history ≡ recorded_text r.entries
  pub journal : texts.journal ≡ journal_text r.journals
  pub report : IsReportOn (recorded_text r.entries) texts.report

-- the texts were written, or a call of writing them failed
pub record WritesTexts {T E : Type 0} (b : Bench) (texts : Texts) (old new : Shown) (out out' : SinkShown) (result : Result T E) : Type 0 where
  pub ok : OnOk result (WritesAll b texts old new out out')
  pub refused : OnErr result (WritesSome b texts old new out out')

-- nothing was written, since the crew refused this replica
pub record IsNotStarted (b : Bench) (replica : ℕ) (old new : Shown) (out out' : SinkShown) (crew crew' : CrewView JobView) : Type 0 where
  pub stopped : IsRefusedAt b.settings.replicas replica crew crew'
  pub shelf : new ≡ old
  pub out_is : out' ≡ out

-- nothing was written, since memory was wanting, and the crew refused no replica
pub record IsWithoutMemory (b : Bench) (old new : Shown) (out out' : SinkShown) (crew crew' : CrewView JobView) : Type 0 where
  pub unrefused : IsUnrefused b.settings.replicas crew crew'
  pub shelf : new ≡ old
  pub out_is : out' ≡ out

-- what a refusal of a bench says
abbrev pub IsRefused : Bench → Shown → Shown → SinkShown → SinkShown → CrewView JobView → CrewView JobView → BenchRefusal → Type 0
IsRefused b old new out out' crew crew' (refusal.NotStarted replica) = IsNotStarted b replica old new out out' crew crew'
IsRefused b old new out out' crew crew' refusal.WriteFailed = BenchUnwritten b old new out out' crew crew'
IsRefused b old new out out' crew crew' refusal.Memory = IsWithoutMemory b old new out out' crew crew'

-- how a bench went
pub record Performs {T : Type 0} (b : Bench) (old new : Shown) (out out' : SinkShown) (crew crew' : CrewView JobView) (result : Result T BenchRefusal) : Type 0 where
  pub done : OnOk result (BenchDone b old new out out' crew crew')
  pub refused : IfErr result (IsRefused b old new out out' crew crew')

-- the line of a refusal
abbrev pub line_of : BenchRefusal → List ℕ
line_of (refusal.NotStarted replica) = not_started_line replica
line_of refusal.WriteFailed = write_failed_line
line_of refusal.Memory = memory_line

-- the status of a refusal
abbrev pub status_of : BenchRefusal → BenchStatus
status_of (refusal.NotStarted replica) = status.NotStarted
status_of refusal.WriteFailed = status.WriteFailed
status_of refusal.Memory = status.OutOfMemory

-- the number of the replica that a refusal names has one digit
abbrev pub HasDigit : BenchRefusal → Type 0
HasDigit (refusal.NotStarted replica) = replica < 10
HasDigit refusal.WriteFailed = ⊤
HasDigit refusal.Memory = ⊤

-- a refusal was answered by its status, after its line
pub record IsRefusedBy (refused : BenchRefusal) (answer : BenchStatus) (old new : SinkShown) : Type 0 where
  pub status_is : answer ≡ status_of refused
  pub says : SaysLine (line_of refused) old new

-- a bench was answered by done and no line, or by the status of its refusal after the line
abbrev pub Answers : {T : Type 0} → Result T BenchRefusal → BenchStatus → SinkShown → SinkShown → Type 0
Answers (Ok v) answer old new = (answer ≡ status.Done) × (new ≡ old)
Answers (Err refused) answer old new = IsRefusedBy refused answer old new
