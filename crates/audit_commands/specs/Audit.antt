-- What the inputs of a command are, and what is written of a history.
use Rattle.std.specs.Prelude.{◌≡◌, ◌⊎◌, ℕ, List, length, Option, Some, None, IfSome, Result, Ok, Err}
use Rattle.stale_model.specs.declared.History.{History}
use Rattle.stale_model.specs.declared.Verdict.{Verdict}
use Rattle.stale_model.specs.PrintedVerdicts.{ArePrintedVerdicts}
use Rattle.stale_model.specs.Truth.{EachKeyHas, IsTrueOf}
use Rattle.stale_model.specs.Shown.{IsShown}
use Rattle.stale_model.specs.declared.store.Settings.{Settings}
use Rattle.audit_ports.specs.Shelf.{Shown}
use Rattle.history_csv.specs.declared.HistoryFault.{HistoryFault}
use Rattle.history_csv.specs.Reading as history
use Rattle.cert_text.specs.declared.CertFault.{CertFault}
use Rattle.cert_text.specs.Reading as certificate
use Rattle.cert_text.specs.Certificates.{cert_text}
use Rattle.staleness_report.specs.Report.{report_text}
use Rattle.mode_texts.specs.TwoTexts.{IsTwoText}
use Rattle.mode_texts.specs.SidesTexts.{IsSidesText}
use Rattle.mode_texts.specs.LiveTexts.{IsLiveText}
use Rattle.trace_check.specs.declared.trace.Trace.{Trace}
use Rattle.trace_check.specs.declared.reading.TraceFault.{TraceFault}
use Rattle.trace_check.specs.Reading.{trace_of}
use Rattle.audit_words.specs.declared.Task.{Task}
use Rattle.audit_words.specs.declared.Task.TheVariants.{Judge, Check, Gen, Trial, Trace as TraceTask}
use Rattle.audit_words.specs.declared.Measure.{Measure}
use Rattle.audit_words.specs.declared.Measure.TheVariants.{Audit, Two, Sides, Live}
use Rattle.audit_commands.specs.declared.texts.Texts.{Texts}
use Rattle.audit_commands.specs.Input.{TakesInput}

-- the greatest length of a history file, in bytes
abbrev pub history_limit : ℕ
history_limit = 67108864

-- the greatest length of a certificate file that is read, in bytes
abbrev pub cert_limit : ℕ
cert_limit = 268435456

-- the greatest length of a journal file that is read, in bytes
abbrev pub journal_limit : ℕ
journal_limit = 268435456

-- the history file of this name was taken, and its bytes are this history
pub record TakesHistory (name : List ℕ) (old new : Shown) (h : History) : Type 0 where
  pub bytes : List ℕ
  pub input : TakesInput history_limit name old new bytes
  pub reads : history.read_of bytes ≡ Ok h

-- the history file of this name was taken, and its bytes read as this fault
pub record IsFaultOf (name : List ℕ) (old new : Shown) (fault : HistoryFault) : Type 0 where
  pub bytes : List ℕ
  pub input : TakesInput history_limit name old new bytes
  pub reads : history.read_of bytes ≡ Err fault

-- the certificate file of this name was taken, and its bytes are these verdicts, of so many keys
pub record TakesCert (name : List ℕ) (keys : ℕ) (old new : Shown) (verdicts : List Verdict) : Type 0 where
  pub bytes : List ℕ
  pub input : TakesInput cert_limit name old new bytes
  pub reads : certificate.read_of keys bytes ≡ Ok verdicts

-- the certificate file of this name was taken, and its bytes read as this fault, for so many keys
pub record IsCertFaultOf (name : List ℕ) (keys : ℕ) (old new : Shown) (fault : CertFault) : Type 0 where
  pub bytes : List ℕ
  pub input : TakesInput cert_limit name old new bytes
  pub reads : certificate.read_of keys bytes ≡ Err fault

-- the inputs of a check were taken: the history, and then these verdicts of its keys
pub record TakesBoth (file cert : List ℕ) (old new : Shown) (h : History) (verdicts : List Verdict) : Type 0 where
  pub between : Shown
  pub history : TakesHistory file old between h
  pub certificate : TakesCert cert (length h.keys) between new verdicts

-- the two files of a run were taken, the history and then the journal file, and with these settings their bytes read as this
pub record TakesRun (history journal : List ℕ) (settings : Settings) (old new : Shown) (read : Result Trace TraceFault) : Type 0 where
  pub calls : List ℕ
  pub lines : List ℕ
  pub between : Shown
  pub history_input : TakesInput history_limit history old between calls
  pub journal_input : TakesInput journal_limit journal between new lines
  pub reads : trace_of settings calls lines ≡ read

-- these are the verdicts of an audit: they are true and shown; which orders and records they have is the last part
pub record AreVerdicts (h : History) (verdicts : List Verdict) : Type 0 where
  pub truth : EachKeyHas IsTrueOf h.keys verdicts
  pub shown : EachKeyHas IsShown h.keys verdicts
  pub printed : ArePrintedVerdicts h.keys verdicts

-- the texts of an audit: the report, and the certificate of the same verdicts, where a file is named for it
pub record AreAuditTexts (cert : Option (List ℕ)) (h : History) (texts : Texts) : Type 0 where
  pub verdicts : List Verdict
  pub are_verdicts : AreVerdicts h verdicts
  pub certificate : IfSome cert (λ name. texts.cert ≡ cert_text verdicts)
  pub report : texts.output ≡ report_text h verdicts

-- what is written of a history by a measure, and all that it says is true; a measure other than an audit has no certificate
abbrev pub AreTextsOf : Measure → History → Texts → Type 0
AreTextsOf (Audit cert workers) h texts = AreAuditTexts cert h texts
AreTextsOf Two h texts = IsTwoText h texts.output
AreTextsOf Sides h texts = IsSidesText h texts.output
AreTextsOf Live h texts = IsLiveText h texts.output

-- the file for the certificate of a measure, if one is named
abbrev pub cert_file : Measure → Option (List ℕ)
cert_file (Audit cert workers) = cert
cert_file Two = None
cert_file Sides = None
cert_file Live = None

-- the file with the history of a task, if it has one
abbrev pub history_file : Task → Option (List ℕ)
history_file (Judge file measure) = Some file
history_file (Check file cert) = Some file
history_file (Gen workload) = None
history_file (Trial workload workers) = None
history_file (TraceTask history journal settings) = Some history

-- the file with a history that a task judges, or checks a certificate of, if it has one
abbrev pub judged_file : Task → Option (List ℕ)
judged_file (Judge file measure) = Some file
judged_file (Check file cert) = Some file
judged_file (Gen workload) = None
judged_file (Trial workload workers) = None
judged_file (TraceTask history journal settings) = None

-- the file that a task writes, if it writes one
abbrev pub output_file : Task → Option (List ℕ)
output_file (Judge file measure) = cert_file measure
output_file (Check file cert) = None
output_file (Gen workload) = None
output_file (Trial workload workers) = None
output_file (TraceTask history journal settings) = None

-- an input file, the greatest length that it may have, and what is known of the shelf before it is opened
pub record Input : Type 0 where
  pub name : List ℕ
  pub limit : ℕ
  pub before : Shown

-- the history is the first input
pub record IsHistoryInput (task : Task) (old : Shown) (input : Input) : Type 0 where
  pub name_is : history_file task ≡ Some input.name
  pub limit_is : input.limit ≡ history_limit
  pub before_is : input.before ≡ old

-- the certificate of a check comes after its history, which has no fault
pub record IsCertInput (task : Task) (old : Shown) (input : Input) : Type 0 where
  pub file : List ℕ
  pub task_is : task ≡ Check file input.name
  pub limit_is : input.limit ≡ cert_limit
  pub h : History
  pub history : TakesHistory file old input.before h

-- the journal file of a run comes after its history, whatever the lines of that are
pub record IsJournalInput (task : Task) (old : Shown) (input : Input) : Type 0 where
  pub history : List ℕ
  pub settings : Settings
  pub task_is : task ≡ TraceTask history input.name settings
  pub limit_is : input.limit ≡ journal_limit
  pub calls : List ℕ
  pub taken : TakesInput history_limit history old input.before calls

-- an input of a task, behind those that have no fault
abbrev pub IsInput : Task → Shown → Input → Type 0
IsInput task old input = IsHistoryInput task old input ⊎ IsCertInput task old input ⊎ IsJournalInput task old input
