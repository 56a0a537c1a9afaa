-- Whether a trace is a recorded run, or the first part of one that fails.
use Rattle.std.specs.Prelude.{◌≡◌, ℕ, ◌<◌, ◌≤◌, All}
use Rattle.stale_model.specs.declared.store.Settings.{Settings}
use Rattle.stale_model.specs.declared.store.Plan.{Plan}
use Rattle.stale_model.specs.Journals.{IsJournal}
use Rattle.stale_model.specs.RecordedRuns.{journal_of, ArePlanned, AreTimed, AreTaken, ReadsFreshest, AreSent, IsRecordedRun}
use Rattle.trace_check.specs.declared.trace.Trace.{Trace}
use Rattle.trace_check.specs.declared.judging.Part.{Part}
use Rattle.trace_check.specs.declared.judging.Part.TheVariants.{Good, Bad}

-- the part of a recorded run with this number, 1 to 6, holds of a trace
pub record PartHolds (settings : Settings) (plan : Plan) (trace : Trace) (part : ℕ) : Type 0 where
  pub planned : part ≡ 1 → ArePlanned settings plan trace.entries
  pub timed : part ≡ 2 → AreTimed trace.entries trace.journals
  pub taken : part ≡ 3 → All (AreTaken settings trace.journals) trace.entries
  pub freshest : part ≡ 4 → All ReadsFreshest trace.entries
  pub served : part ≡ 5 → (replica : ℕ) → IsJournal replica (journal_of trace.journals replica)
  pub sent : part ≡ 6 → AreSent settings trace.entries trace.journals

-- this part fails, and each before it holds
pub record IsFirstFailing (settings : Settings) (plan : Plan) (trace : Trace) (part : ℕ) : Type 0 where
  pub numbered : (1 ≤ part) × (part ≤ 6)
  pub fails : PartHolds settings plan trace part → ⊥
  pub before : (lesser : ℕ) → 1 ≤ lesser → lesser < part → PartHolds settings plan trace lesser

-- the answer on a trace: good where it is a recorded run of the plan, else the first part that fails
abbrev pub IsPartOf : Settings → Plan → Trace → Part → Type 0
IsPartOf settings plan trace Good = IsRecordedRun settings plan trace.entries trace.journals
IsPartOf settings plan trace (Bad part) = IsFirstFailing settings plan trace part
