-- Definitions that serve the code alone: the refusals of a command, what shows each, and what is said of it.
use Rattle.std.specs.Prelude.{◌≡◌, ◌≢◌, ◌⊎◌, ⊤, ℕ, ◌≤◌, List, length, Option, Some, None, Ok, Err, Result, IfOk, IfErr}
use Rattle.stale_model.specs.declared.History.{History}
use Rattle.stale_model.specs.declared.Verdict.{Verdict}
use Rattle.history_csv.specs.Header.{IsColumn}
use Rattle.history_csv.specs.declared.HistoryFault.{HistoryFault}
use Rattle.history_csv.specs.declared.HistoryFault.TheVariants as history_fault
use Rattle.cert_text.specs.declared.CertFault.{CertFault}
use Rattle.cert_text.specs.declared.CertFault.TheVariants as cert_fault
use Rattle.stale_model.specs.declared.store.Settings.{Settings}
use Rattle.trace_check.specs.declared.trace.Trace.{Trace}
use Rattle.trace_check.specs.declared.reading.TraceFault.{TraceFault}
use Rattle.trace_check.specs.declared.reading.TraceFault.TheVariants as trace_fault
use Rattle.audit_ports.specs.declared.Failed.{Failed}
use Rattle.audit_ports.specs.Shelf.{Shown, KeepsCounts, Misses, FailsReading}
use Rattle.audit_ports.specs.Sink.{SinkShown}
use Rattle.audit_words.specs.declared.Task.{Task}
use Rattle.audit_words.specs.declared.Task.TheVariants.{Check, Trace as TraceTask}
use Rattle.audit_commands.specs.declared.status.Status.{Status}
use Rattle.audit_commands.specs.declared.status.Status.TheVariants as status
use Rattle.audit_commands.specs.declared.refusal.Refusal.{Refusal}
use Rattle.audit_commands.specs.declared.refusal.Refusal.TheVariants as refusal
use Rattle.audit_commands.specs.declared.texts.Texts.{Texts}
use Rattle.audit_commands.specs.Input.{IsTooLong}
use Rattle.command_outputs.specs.Output.{WritesWhole, WritesPart}
use Rattle.audit_commands.specs.Output.{WritesNamed, WritesNamedPart}
use Rattle.audit_commands.specs.Audit.{history_limit, cert_limit, TakesHistory, IsFaultOf, IsCertFaultOf, TakesRun, Input, IsInput, history_file, judged_file, output_file}
use Rattle.audit_commands.specs.Ends.{KeepsShelf, IsUnwritten}
use Rattle.audit_commands.specs.Steps.{Performs}
use Rattle.command_outputs.specs.Lines.{write_failed_line, memory_line, SaysLine}
use Rattle.audit_commands.specs.Lines.{fault_line, cert_fault_line, trace_fault_line, missing_line, too_long_line, read_failed_line}

-- the refusal that a fault of reading a history is
abbrev pub refusal_of : HistoryFault → Refusal
refusal_of history_fault.Memory = refusal.Memory
refusal_of other = refusal.History other

-- the history, or the refusal that its fault is
abbrev pub ReadsAs : Result History HistoryFault → Result History Refusal → Type 0
ReadsAs (Ok h) result = result ≡ Ok h
ReadsAs (Err fault) result = result ≡ Err (refusal_of fault)

-- the refusal that a fault of reading a certificate is
abbrev pub cert_refusal_of : CertFault → Refusal
cert_refusal_of cert_fault.Memory = refusal.Memory
cert_refusal_of other = refusal.Cert other

-- the verdicts, or the refusal that their fault is
abbrev pub CertReadsAs : Result (List Verdict) CertFault → Result (List Verdict) Refusal → Type 0
CertReadsAs (Ok verdicts) result = result ≡ Ok verdicts
CertReadsAs (Err fault) result = result ≡ Err (cert_refusal_of fault)

-- the refusal that a fault of reading the two files of a run is
abbrev pub trace_refusal_of : TraceFault → Refusal
trace_refusal_of trace_fault.Memory = refusal.Memory
trace_refusal_of other = refusal.Trace other

-- the trace, or the refusal that its fault is
abbrev pub TraceReadsAs : Result Trace TraceFault → Result Trace Refusal → Type 0
TraceReadsAs (Ok trace) result = result ≡ Ok trace
TraceReadsAs (Err fault) result = result ≡ Err (trace_refusal_of fault)

-- a fault that has a line: it is no want of memory, and a column that it names is one of a history
pub record HasLine (fault : HistoryFault) : Type 0 where
  pub no_memory : fault ≢ history_fault.Memory
  pub column : (number : ℕ) → fault ≡ history_fault.Column number → IsColumn number

-- the refusal has a line
abbrev pub CanBeSaid : Refusal → Type 0
CanBeSaid (refusal.History fault) = HasLine fault
CanBeSaid (refusal.Cert fault) = fault ≢ cert_fault.Memory
CanBeSaid (refusal.Trace fault) = fault ≢ trace_fault.Memory
CanBeSaid _ = ⊤

-- the file of this name is missing, and this is the line on it
pub record ShowsMissing (name : List ℕ) (old new : Shown) (line : List ℕ) : Type 0 where
  pub misses : Misses name old new
  pub line_is : line ≡ missing_line name

-- the file of this name is too long, and this is the line on it
pub record ShowsTooLong (limit : ℕ) (name : List ℕ) (old new : Shown) (line : List ℕ) : Type 0 where
  pub too_long : IsTooLong limit name old new
  pub line_is : line ≡ too_long_line name

-- what shows a refusal of taking the input file of this name
abbrev pub InputShows : ℕ → List ℕ → Shown → Shown → Refusal → Type 0
InputShows limit name old new (refusal.Missing line) = ShowsMissing name old new line
InputShows limit name old new refusal.ReadFailed = FailsReading old new
InputShows limit name old new (refusal.TooLong line) = ShowsTooLong limit name old new line
InputShows limit name old new refusal.Memory = KeepsCounts old new
InputShows limit name old new _ = ⊥

-- what shows a refusal of the history in the file of this name
abbrev pub HistoryShows : List ℕ → Shown → Shown → Refusal → Type 0
HistoryShows name old new (refusal.History fault) = IsFaultOf name old new fault × HasLine fault
HistoryShows name old new other = InputShows history_limit name old new other

-- what shows a refusal of the certificate in the file of this name
abbrev pub CertShows : List ℕ → ℕ → Shown → Shown → Refusal → Type 0
CertShows name keys old new (refusal.Cert fault) = IsCertFaultOf name keys old new fault × (fault ≢ cert_fault.Memory)
CertShows name keys old new other = InputShows cert_limit name old new other

-- a check's certificate has this fault, and its history has none
pub record ShowsCertFault (task : Task) (old new : Shown) (fault : CertFault) : Type 0 where
  pub file : List ℕ
  pub cert : List ℕ
  pub task_is : task ≡ Check file cert
  pub taken : Shown
  pub h : History
  pub history : TakesHistory file old taken h
  pub fault_is : IsCertFaultOf cert (length h.keys) taken new fault
  pub no_memory : fault ≢ cert_fault.Memory

-- the two files of a trace were taken, and have this fault
pub record ShowsTraceFault (task : Task) (old new : Shown) (fault : TraceFault) : Type 0 where
  pub history : List ℕ
  pub journal : List ℕ
  pub settings : Settings
  pub task_is : task ≡ TraceTask history journal settings
  pub fault_is : TakesRun history journal settings old new (Err fault)
  pub no_memory : fault ≢ trace_fault.Memory

-- the task's history has this fault
pub record ShowsHistoryFault (task : Task) (old new : Shown) (fault : HistoryFault) : Type 0 where
  pub file : List ℕ
  pub file_is : judged_file task ≡ Some file
  pub fault_is : IsFaultOf file old new fault
  pub line : HasLine fault

-- the task has a history, and a read failed
pub record ShowsReadFailed (task : Task) (old new : Shown) : Type 0 where
  pub file : List ℕ
  pub file_is : history_file task ≡ Some file
  pub fails : FailsReading old new

-- an input of the task, and what shows that it is refused
pub record ShowsInput (Says : Input → Type 0) (task : Task) (old : Shown) : Type 0 where
  pub input : Input
  pub input_is : IsInput task old input
  pub says : Says input

-- what shows a refusal of a task that comes before any output
abbrev pub Shows : Task → Shown → Shown → Refusal → Type 0
Shows task old new (refusal.History fault) = ShowsHistoryFault task old new fault
Shows task old new (refusal.Cert fault) = ShowsCertFault task old new fault
Shows task old new (refusal.Trace fault) = ShowsTraceFault task old new fault
Shows task old new (refusal.Missing line) = ShowsInput (λ input. ShowsMissing input.name input.before new line) task old
Shows task old new refusal.ReadFailed = ShowsReadFailed task old new
Shows task old new refusal.WriteFailed = ⊥
Shows task old new (refusal.TooLong line) = ShowsInput (λ input. ShowsTooLong input.limit input.name input.before new line) task old
Shows task old new refusal.Memory = KeepsCounts old new

-- a refusal before any output: it is shown, and files and output are as they were
pub record RefusedBefore (task : Task) (old new : Shown) (out out' : SinkShown) (r : Refusal) : Type 0 where
  pub shows : Shows task old new r
  pub files : new.files ≡ old.files
  pub same : out' ≡ out

-- what shows a refusal of a task
abbrev pub IsRefused : Task → Shown → Shown → SinkShown → SinkShown → Refusal → Type 0
IsRefused task old new out out' refusal.WriteFailed = IsUnwritten task old new out out'
IsRefused task old new out out' other = RefusedBefore task old new out out' other

-- how a task ends
pub record TaskEnds (task : Task) (old new : Shown) (out out' : SinkShown) (result : Result Status Refusal) : Type 0 where
  pub keeps : KeepsShelf (output_file task) old new
  pub untouched : history_file task ≡ None → new ≡ old
  pub faults : out.faults ≤ out'.faults
  pub done : IfOk result (Performs task old new out out')
  pub refused : IfErr result (IsRefused task old new out out')

-- how the certificate was written, where a file is named for it
abbrev pub Certifies : Option (List ℕ) → List ℕ → Shown → Shown → Result Unit Failed → Type 0
Certifies cert text old new (Ok v) = WritesNamed cert text old new
Certifies cert text old new (Err failed) = WritesNamedPart cert text old new

-- how the texts of a history were written
abbrev pub WritesTexts : Option (List ℕ) → Texts → Shown → Shown → SinkShown → SinkShown → Result Unit Failed → Type 0
WritesTexts cert texts old new out out' (Ok v) = WritesNamed cert texts.cert old new × WritesWhole texts.output out out'
WritesTexts cert texts old new out out' (Err failed) =
    (WritesNamedPart cert texts.cert old new × (out' ≡ out)) ⊎ (WritesNamed cert texts.cert old new × WritesPart texts.output out out')

-- a call answered with this status, after this line
pub record Says (status : Status) (line : List ℕ) (result : Status) (old new : SinkShown) : Type 0 where
  pub status_is : result ≡ status
  pub says : SaysLine line old new

-- a fault with this line is answered with it and this status, or as want of memory
abbrev pub SaysFault : Option (List ℕ) → Status → Status → SinkShown → SinkShown → Type 0
SaysFault fault_says refused result old new =
    ((line : List ℕ) × (fault_says ≡ Some line) × Says refused line result old new)
    ⊎ Says status.OutOfMemory memory_line result old new

-- how a refusal is answered: by its status after its line
abbrev pub Answers : Refusal → Status → SinkShown → SinkShown → Type 0
Answers (refusal.History fault) result old new = SaysFault (fault_line fault) status.HistoryRefused result old new
Answers (refusal.Cert fault) result old new = SaysFault (cert_fault_line fault) status.CertRefused result old new
Answers (refusal.Trace fault) result old new = SaysFault (trace_fault_line fault) status.TraceRefused result old new
Answers (refusal.Missing line) result old new = Says status.Missing line result old new
Answers refusal.ReadFailed result old new = Says status.ReadFailed read_failed_line result old new
Answers refusal.WriteFailed result old new = Says status.WriteFailed write_failed_line result old new
Answers (refusal.TooLong line) result old new = Says status.TooLong line result old new
Answers refusal.Memory result old new = Says status.OutOfMemory memory_line result old new
