-- The run of a client, and what it records.
use Rattle.std.specs.Prelude.{◌≡◌, ℕ, ◌+◌, ◌-◌, ◌<◌, ◌≤◌, true, false, List, [], ◌∷◌, ◌++◌, length, map, slice_index_or}
use mathlib.Core.List.{IsPrefix}
use Rattle.ticket_clock.specs.Seats.{ClockView}
use Rattle.stale_model.specs.declared.store.Entry.{Entry}
use Rattle.key_recorder.specs.declared.letters.RecordLetter.{RecordLetter}
use Rattle.key_recorder.specs.declared.letters.RecordLetter.TheVariants.{Entry as EntryLetter, End}
use Rattle.key_recorder.specs.Letters.{AreEnded}
use Rattle.key_recorder.specs.Recorders.{RecorderView, LaneView, LogView, IsOf}
use Rattle.key_recorder.specs.Prepared.{calls_on}
use Rattle.bench_run.specs.Clients.{Ran}
use Rattle.bench_run.specs.Logs.{entries_on}
use Rattle.bench_run.specs.declared.runner.Runner.{Runner}

-- the lane after these letters were sent on it
abbrev pub with_letters : List RecordLetter → LaneView → LaneView
with_letters xs l = record l { sent = l.sent ++ xs; left = l.left - length xs }

-- a client that can make its planned calls, and a pass with room for their entries and its end
pub record IsReadyRunner (clock : ClockView) (recorder : RecorderView) (r : Runner) : Type 0 where
  pub own : r.client.seat.clock ≡ clock.id
  pub pass : IsOf recorder r.pass
  pub number : r.pass.client ≡ r.client.number
  pub not_closed : r.pass.closed ≡ false
  pub shards : 0 < length r.pass.lanes
  pub room : (shard : ℕ) (l : LaneView) → shard < length r.pass.lanes
      → calls_on (length r.pass.lanes) shard r.client.left + 1 ≤ (slice_index_or r.pass.lanes shard l).left

-- the client has made its planned calls, and each shard was sent those on its keys and then the client's end
pub record IsRun (r s : Runner) : Type 0 where
  pub entries : List Entry
  pub ran : Ran r.client entries s.client
  pub done : s.client.left ≡ []
  pub client : s.pass.client ≡ r.pass.client
  pub closed : s.pass.closed ≡ true
  pub as_many : length s.pass.lanes ≡ length r.pass.lanes
  pub lanes : (shard : ℕ) (l : LaneView) → shard < length r.pass.lanes
      → slice_index_or s.pass.lanes shard l
      ≡ with_letters (map EntryLetter (entries_on (length r.pass.lanes) shard entries) ++ End r.pass.client ∷ []) (slice_index_or r.pass.lanes shard l)

-- the log has taken the ends of all clients; what it had taken before it has still, and nothing else of it has changed but how often it found no letter
pub record IsDrained (g h : LogView) : Type 0 where
  pub ended : AreEnded h.clients h.taken
  pub more : IsPrefix g.taken h.taken
  pub rest : h ≡ record g { taken = h.taken; empties = h.empties }
