-- Laws of the history of a recorded run: it is read back, and no key of it has a fault.
use Rattle.std.specs.Prelude.{◌≡◌, ℕ, ◌≤◌, List, length, map, Ok, All}
use Rattle.std.specs.List.Sorted.{IsPermutation}
use Rattle.stale_model.specs.declared.History.{History}
use Rattle.stale_model.specs.declared.store.Settings.{Settings}
use Rattle.stale_model.specs.declared.store.Plan.{Plan}
use Rattle.stale_model.specs.declared.store.JournalEntry.{JournalEntry}
use Rattle.stale_model.specs.declared.store.Entry.{Entry}
use Rattle.stale_model.specs.Settings.{AreSettings}
use Rattle.stale_model.specs.Operations.{operations}
use Rattle.stale_model.specs.Faults.{IsClearKey}
use Rattle.stale_model.specs.RecordedRuns.{tickets_of, IsRecordedRun}
use Rattle.stale_model.specs.Texts.{line_of, recorded_text}
use Rattle.history_csv.specs.Entries.{greatest_tick, most_records}
use Rattle.history_csv.specs.Numbering.{history_of}
use Rattle.history_csv.specs.Reading.{read_of}
use Rattle.history_csv.specs.Written.{IsReadable, entries_of_lines}
use Rattle.ticket_clock.specs.Seats.{IsOneToLength}
use Rattle.quorum_client.specs.Plans.{IsWhole}

-- a ticket that may stand in a history as a tick
abbrev pub IsTick : ℕ → Type 0
IsTick t = (1 ≤ t) × (t ≤ greatest_tick)

-- the tickets of a run may stand in a history, where they are those that were drawn, 1 to their number, and no more than the greatest tick
abbrev pub DrawnAreTicks : Type 0
DrawnAreTicks = (entries : List Entry) (journals : List (List JournalEntry)) (drawn : List ℕ)
    → IsPermutation (tickets_of entries journals) drawn → IsOneToLength drawn → length drawn ≤ greatest_tick
    → All IsTick (tickets_of entries journals)

-- what holds of the calls of each recorded run of a whole plan, where each ticket may stand in a history
abbrev pub OfEachRun : (List Entry → Type 0) → Type 0
OfEachRun Holds = (settings : Settings) (plan : Plan) (entries : List Entry) (journals : List (List JournalEntry))
    → AreSettings settings → IsWhole settings plan → IsRecordedRun settings plan entries journals → All IsTick (tickets_of entries journals)
    → Holds entries

-- calls that a history may have: no more than records, and the line of each reads back
pub record AreReadable (entries : List Entry) : Type 0 where
  pub few : length entries ≤ most_records
  pub lines : All (λ e. IsReadable (line_of e)) entries

-- the calls of a run may stand in a history
abbrev pub RunsAreReadable : Type 0
RunsAreReadable = OfEachRun AreReadable

-- the recorded history of these calls is read back as their history
abbrev pub ReadsBack : List Entry → Type 0
ReadsBack entries = read_of (recorded_text entries) ≡ Ok (history_of (entries_of_lines 1 (map line_of entries)))

-- the recorded history of a run is read back as the history of its calls: record n is that of the call at place n
abbrev pub RunsReadBack : Type 0
RunsReadBack = OfEachRun ReadsBack

-- no key of the recorded history of these calls is duplicate, unmatched or early
abbrev pub HasNoFaults : List Entry → Type 0
HasNoFaults entries = (h : History) → read_of (recorded_text entries) ≡ Ok h → All (λ key. IsClearKey (operations key)) h.keys

-- no key of the recorded history of a run is duplicate, unmatched or early
abbrev pub RunsHaveNoFaults : Type 0
RunsHaveNoFaults = OfEachRun HasNoFaults
