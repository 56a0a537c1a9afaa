-- What a bench makes before it writes: a run of the store, and the audit of the history of its calls.
use Rattle.std.specs.Prelude.{◌≡◌, ⊤, ◌≤◌, List, length, Ok, All}
use Rattle.ticket_clock.specs.Seats.{IsOneToLength}
use Rattle.stale_model.specs.declared.History.{History}
use Rattle.stale_model.specs.declared.Verdict.{Verdict}
use Rattle.stale_model.specs.declared.Verdict.TheVariants.{Judged}
use Rattle.stale_model.specs.declared.store.Settings.{Settings}
use Rattle.stale_model.specs.declared.store.Entry.{Entry}
use Rattle.stale_model.specs.declared.store.JournalEntry.{JournalEntry}
use Rattle.stale_model.specs.RecordedRuns.{tickets_of, IsRecordedRun}
use Rattle.stale_model.specs.Texts.{recorded_text}
use Rattle.history_csv.specs.Reading as history
use Rattle.quorum_client.specs.Plans.{plan_for}
use Rattle.audit_ports.specs.Crew.{CrewView}
use Rattle.audit_commands.specs.Audit.{AreVerdicts}
use Rattle.bench_run.specs.Jobs.{JobView}
use Rattle.bench_run.specs.Ready.{tickets}
use Rattle.bench_run.specs.Drive.{AreBegun}

-- the calls of a run and the journals of its replicas, the history that the text of the calls reads as, and its verdicts
pub record Made : Type 0 where
  pub entries : List Entry
  pub journals : List (List JournalEntry)
  pub h : History
  pub verdicts : List Verdict

-- calls and journals are a recorded run of the plan of these settings; its tickets are 1 to their number, each once, and no more than it may draw;
-- the crew began all replicas, in order, and refused none
pub record IsRunOf (s : Settings) (entries : List Entry) (journals : List (List JournalEntry)) (old new : CrewView JobView) : Type 0 where
  pub recorded : IsRecordedRun s (plan_for s) entries journals
  pub once : IsOneToLength (tickets_of entries journals)
  pub few : length (tickets_of entries journals) ≤ tickets s
  pub begun : AreBegun s.replicas old new

-- the key is neither duplicate nor unmatched nor infinite
abbrev pub IsJudged : Verdict → Type 0
IsJudged (Judged judgement) = ⊤
IsJudged _ = ⊥

-- the verdicts of the history that the text of these calls reads as, each of them a judgement
pub record IsAuditOf (entries : List Entry) (h : History) (verdicts : List Verdict) : Type 0 where
  pub reads : history.read_of (recorded_text entries) ≡ Ok h
  pub are_verdicts : AreVerdicts h verdicts
  pub judged : All IsJudged verdicts

-- a run of these settings by this crew, and its audit
pub record IsMade (s : Settings) (made : Made) (old new : CrewView JobView) : Type 0 where
  pub run : IsRunOf s made.entries made.journals old new
  pub audit : IsAuditOf made.entries made.h made.verdicts
