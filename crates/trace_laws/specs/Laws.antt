-- Laws of the two files of a recorded run: they are read back as the run, and judged good; and a trace has one answer.
use Rattle.std.specs.Prelude.{◌≡◌, ℕ, ◌<◌, ◌≤◌, List, length, Ok, All}
use Rattle.stale_model.specs.declared.store.Settings.{Settings}
use Rattle.stale_model.specs.declared.store.Plan.{Plan}
use Rattle.stale_model.specs.declared.store.JournalEntry.{JournalEntry}
use Rattle.stale_model.specs.declared.store.Entry.{Entry}
use Rattle.stale_model.specs.Settings.{AreSettings}
use Rattle.stale_model.specs.RecordedRuns.{tickets_of, IsRecordedRun}
use Rattle.stale_model.specs.Texts.{recorded_text, journal_text}
use Rattle.quorum_client.specs.Plans.{plan_for}
use Rattle.trace_check.specs.declared.trace.Trace.{Trace}
use Rattle.trace_check.specs.declared.judging.Part.{Part}
use Rattle.trace_check.specs.declared.judging.Part.TheVariants.{Good}
use Rattle.trace_check.specs.Lines.{tick_limit, most_taken}
use Rattle.trace_check.specs.Reading.{trace_of}
use Rattle.trace_check.specs.Parts.{IsPartOf}

-- a ticket that may stand in the files as a tick
abbrev pub IsTick : ℕ → Type 0
IsTick t = (1 ≤ t) × (t < tick_limit)

-- what holds of each recorded run of the plan of its settings, where each ticket may stand in the files; the places that a call has for replies are those of
-- its type
abbrev pub OfEachRun : (Settings → List Entry → List (List JournalEntry) → Type 0) → Type 0
OfEachRun Holds = (settings : Settings) (entries : List Entry) (journals : List (List JournalEntry))
    → AreSettings settings → IsRecordedRun settings (plan_for settings) entries journals → All IsTick (tickets_of entries journals)
    → All (λ e. length e.took ≡ most_taken) entries → Holds settings entries journals

-- the run that these entries and journals are
abbrev pub traced : List Entry → List (List JournalEntry) → Trace
traced es js = record { entries = es; journals = js }

-- the history and the journal file of a recorded run are read back as this run
abbrev pub RunsAreTraced : Type 0
RunsAreTraced = OfEachRun (λ settings entries journals. trace_of settings (recorded_text entries) (journal_text journals) ≡ Ok (traced entries journals))

-- what the history and the journal file of a recorded run are read back as, is judged good
abbrev pub RunsAreGood : Type 0
RunsAreGood = OfEachRun (λ settings entries journals. (trace : Trace)
    → trace_of settings (recorded_text entries) (journal_text journals) ≡ Ok trace → IsPartOf settings (plan_for settings) trace Good)

-- a trace has one answer: where it is good no part fails, and of its parts one is the first that fails
abbrev pub AnswersAreOne : Type 0
AnswersAreOne = (settings : Settings) (plan : Plan) (trace : Trace) (a b : Part)
    → IsPartOf settings plan trace a → IsPartOf settings plan trace b → a ≡ b
