-- What is said of generated histories: their text, and the verdicts on it.
use Rattle.std.specs.Prelude.{◌≡◌, ℕ, List, Ok}
use Rattle.stale_model.specs.declared.History.{History}
use Rattle.stale_model.specs.declared.Verdict.{Verdict}
use Rattle.history_csv.specs.Reading as history
use Rattle.history_csv.specs.Written.{history_text}
use Rattle.history_gen.specs.Generated.{lines_of}
use Rattle.staleness_report.specs.Report.{total_line}
use Rattle.audit_ports.specs.Shelf.{Shown}
use Rattle.audit_ports.specs.Sink.{SinkShown}
use Rattle.audit_words.specs.declared.Workload.{Workload}
use Rattle.audit_commands.specs.Audit.{AreVerdicts}
use Rattle.command_outputs.specs.Output.{WritesWhole, WritesPart}

-- the text of the generated history
abbrev pub generated_text : Workload → List ℕ
generated_text workload = history_text (lines_of workload.seed workload.keys workload.ops)

-- the trial of a generated history: the verdicts of the history that its text reads as
pub record IsTrial (workload : Workload) (h : History) (verdicts : List Verdict) : Type 0 where
  pub reads : history.read_of (generated_text workload) ≡ Ok h
  pub are_verdicts : AreVerdicts h verdicts

-- a history was generated: the output gained exactly its text, and the shelf is as it was
pub record GenDone (workload : Workload) (old new : Shown) (out out' : SinkShown) : Type 0 where
  pub shelf : new ≡ old
  pub text : WritesWhole (generated_text workload) out out'

-- a trial was done: the output gained exactly the last line of the report, and the shelf is as it was
pub record TrialDone (workload : Workload) (old new : Shown) (out out' : SinkShown) : Type 0 where
  pub shelf : new ≡ old
  pub h : History
  pub verdicts : List Verdict
  pub trial : IsTrial workload h verdicts
  pub line : WritesWhole (total_line h verdicts) out out'

-- a call of writing the generated history failed
pub record GenUnwritten (workload : Workload) (old new : Shown) (out out' : SinkShown) : Type 0 where
  pub shelf : new ≡ old
  pub text : WritesPart (generated_text workload) out out'

-- a call of writing the line of a trial failed
pub record TrialUnwritten (workload : Workload) (old new : Shown) (out out' : SinkShown) : Type 0 where
  pub shelf : new ≡ old
  pub h : History
  pub verdicts : List Verdict
  pub trial : IsTrial workload h verdicts
  pub line : WritesPart (total_line h verdicts) out out'
