-- What is true of the fields of a log.
use Rattle.std.specs.Prelude.{◌≡◌, ℕ, ◌<◌, ◌≤◌, true, Bool, List, Option, Some, None, slice_index_or, vec_len, vec_capacity}
use Rattle.std.specs.Arc.{arc_value}
use Rattle.ticket_clock.specs.Seats.{times}
use Rattle.post_box.specs.Boxes.{TakerView, WholeView}
use Rattle.key_recorder.specs.declared.letters.RecordLetter.{RecordLetter}
use Rattle.key_recorder.specs.declared.log.ShardLog.TheInside.{Inside}
use Rattle.key_recorder.specs.Letters.{entries_in, has_ended, AreEnded}
use Rattle.key_recorder.specs.Recorders.{LogView}

-- what was taken: by the taker, or by the whole once the taker went back
abbrev pub taken_by : Option (TakerView RecordLetter) → WholeView RecordLetter → List RecordLetter
taken_by (Some t) w = t.taken
taken_by None w = w.taken

-- how often none was found
abbrev pub empties_of : Option (TakerView RecordLetter) → WholeView RecordLetter → ℕ
empties_of (Some t) w = t.empties
empties_of None w = w.empties

-- the taker takes from the whole's box, or it went back, once the ends of all clients were taken
pub record IsTaking (clients : ℕ) (taker : Option (TakerView RecordLetter)) (w : WholeView RecordLetter) : Type 0 where
  pub own : (t : TakerView RecordLetter) → taker ≡ Some t → t.box ≡ w.box
  pub takes : taker ≡ None → w.takes ≡ true
  pub ended : taker ≡ None → AreEnded clients w.taken

-- the whole is of the log's box and gave out numbers of clients; the entries are those that were taken, and have room for as many as the box; of each client it is known whether it ended
pub record IsLog (g : Inside) : Type 0 where
  pub own : g.whole.box ≡ arc_value g.post
  pub taking : IsTaking g.clients g.taker g.whole
  pub numbers : (s : ℕ) → g.clients ≤ s → times s g.whole.numbers ≡ 0
  pub entries : g.entries.items ≡ entries_in (taken_by g.taker g.whole)
  pub room : (arc_value g.post).capacity ≤ vec_capacity g.entries
  pub as_many : vec_len g.ended ≡ g.clients
  pub ended : (k : ℕ) (b : Bool) → k < g.clients → slice_index_or g.ended.items k b ≡ has_ended k (taken_by g.taker g.whole)

-- the log as a caller's contract sees it
abbrev pub view_of : Inside → LogView
view_of g = record {
  box = arc_value g.post;
  clients = g.clients;
  shard = g.shard;
  taken = taken_by g.taker g.whole;
  empties = empties_of g.taker g.whole;
  settled = g.whole.gathered;
}
