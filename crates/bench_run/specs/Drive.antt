-- How a run starts, and what is left of it.
use Rattle.std.specs.Prelude.{◌≡◌, ℕ, ◌<◌, ◌≤◌, List, ◌++◌, length, take, flat_map, Some}
use Rattle.std.specs.List.{range_with_len}
use Rattle.std.specs.List.Sorted.{IsPermutation}
use Rattle.ticket_clock.specs.Seats.{IsOneToLength}
use Rattle.stale_model.specs.declared.store.Entry.{Entry}
use Rattle.stale_model.specs.RecordedRuns.{tickets_of, IsRecordedRun}
use Rattle.audit_ports.specs.Shelf.{Rose}
use Rattle.audit_ports.specs.Crew.{CrewView}
use Rattle.key_recorder.specs.Letters.{entries_in}
use Rattle.key_recorder.specs.Recorders.{LogView}
use Rattle.key_recorder.specs.Collected.{IsCollected}
use Rattle.bench_run.specs.declared.run.Run.{Run}
use Rattle.bench_run.specs.Jobs.{JobView}
use Rattle.bench_run.specs.Ready.{tickets}
use Rattle.bench_run.specs.Prepared.{PreparedView}

-- so many replicas were started, in order, and none was refused
pub record AreBegun (many : ℕ) (old new : CrewView JobView) : Type 0 where
  pub begun : new.begun ≡ old.begun ++ range_with_len 0 many
  pub count : new.count ≡ old.count
  pub last : new.last ≡ old.last

-- of so many replicas this one was refused, and those before it were started, in order
pub record IsRefusedAt (many replica : ℕ) (old new : CrewView JobView) : Type 0 where
  pub within : replica < many
  pub begun : new.begun ≡ old.begun ++ range_with_len 0 replica
  pub count : Rose old.count new.count
  pub last : new.last ≡ Some replica

-- the crew started these jobs, in order, and refused none
pub record AreStarted (jobs : List JobView) (old new : CrewView JobView) : Type 0 where
  pub jobs_are : new.jobs ≡ jobs
  pub all_begun : AreBegun (length jobs) old new

-- the crew refused the job of this replica, and started those before it, in order
pub record IsStoppedAt (jobs : List JobView) (replica : ℕ) (old new : CrewView JobView) : Type 0 where
  pub jobs_are : new.jobs ≡ take replica jobs
  pub refused : IsRefusedAt (length jobs) replica old new

-- the entries of the logs, one log after the other
abbrev pub logged_in : List LogView → List Entry
logged_in logs = flat_map (λ l. entries_in l.taken) logs

-- the entries of the logs, by rising start, and the journals are a recorded run; its tickets are those that the seat has drawn: no more than the run may draw, 1 to their number, each once
pub record IsRecordedOut (p : PreparedView) (run : Run) : Type 0 where
  pub few : length run.seat.drawn ≤ tickets p.settings
  pub recorded : (entries : List Entry) → IsCollected (logged_in run.logs) entries → IsRecordedRun p.settings p.plan entries run.journals
  pub tickets : (entries : List Entry) → IsCollected (logged_in run.logs) entries → IsPermutation (tickets_of entries run.journals) run.seat.drawn
  pub once : IsOneToLength run.seat.drawn
