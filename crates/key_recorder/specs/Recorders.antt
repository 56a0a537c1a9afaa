-- A recorder, its passes and its logs, as a caller's contract sees them, and what each call leaves.
use Rattle.std.specs.Prelude.{◌≡◌, ℕ, ◌-◌, ◌%◌, ◌<◌, ◌==◌, Bool, true, false, if◌then◌else◌, List, [], ◌∷◌, ◌++◌, length, map, slice_index_or, All}
use Rattle.post_box.specs.Boxes.{BoxView, letters_of}
use Rattle.stale_model.specs.declared.store.Entry.{Entry}
use Rattle.stale_model.specs.RecordedRuns.{entries_of}
use Rattle.key_recorder.specs.declared.letters.RecordLetter.{RecordLetter}
use Rattle.key_recorder.specs.declared.letters.RecordLetter.TheVariants.{Entry as OfEntry}
use Rattle.key_recorder.specs.Letters.{sender_of, entries_in}

-- the boxes of a recorder, by shard
pub record RecorderView : Type 0 where
  pub boxes : List BoxView

-- what a pass sent to one shard: its box, the letters, how many more it may send, and whether its sender is still with the pass
pub record LaneView : Type 0 where
  pub box : BoxView
  pub sent : List RecordLetter
  pub left : ℕ
  pub here : Bool

-- a pass: its client, its lane to each shard, and whether it was closed
pub record PassView : Type 0 where
  pub client : ℕ
  pub lanes : List LaneView
  pub closed : Bool

-- a log: its box, how many clients there are, its shard, the letters that it took, how often it found none, and the clients that were settled
pub record LogView : Type 0 where
  pub box : BoxView
  pub clients : ℕ
  pub shard : ℕ
  pub taken : List RecordLetter
  pub empties : ℕ
  pub settled : List ℕ

-- the pass is of this recorder
abbrev pub IsOf : RecorderView → PassView → Type 0
IsOf r p = map (λ l. l.box) p.lanes ≡ r.boxes

-- the shard of a key
abbrev pub shard_of : ℕ → ℕ → ℕ
shard_of shards key = key % shards

-- the lane after this letter was sent on it
abbrev pub with_letter : RecordLetter → LaneView → LaneView
with_letter x l = record l { sent = l.sent ++ x ∷ []; left = l.left - 1 }

-- the lane after its sender went back
abbrev pub without_sender : LaneView → LaneView
without_sender l = record l { here = false }

-- the pass after an entry was recorded: it stands last in the lane of its shard, and the other lanes are as before
pub record IsRecorded (e : Entry) (p q : PassView) : Type 0 where
  pub client : q.client ≡ p.client
  pub closed : q.closed ≡ p.closed
  pub as_many : length q.lanes ≡ length p.lanes
  pub each : (k : ℕ) (l : LaneView) → k < length p.lanes
      → slice_index_or q.lanes k l ≡ (if k == shard_of (length p.lanes) e.key then with_letter (OfEntry e) (slice_index_or p.lanes k l) else slice_index_or p.lanes k l)

-- the pass after its sender of one shard went back: its lane has none, and the other lanes are as before
pub record IsSettled (shard : ℕ) (p q : PassView) : Type 0 where
  pub client : q.client ≡ p.client
  pub closed : q.closed ≡ p.closed
  pub as_many : length q.lanes ≡ length p.lanes
  pub each : (k : ℕ) (l : LaneView) → k < length p.lanes
      → slice_index_or q.lanes k l ≡ (if k == shard then without_sender (slice_index_or p.lanes k l) else slice_index_or p.lanes k l)

-- the pass has a lane to the shard of this log, through the log's box, and the sender is still there
pub record IsLaneOf (g : LogView) (p : PassView) : Type 0 where
  pub there : g.shard < length p.lanes
  pub own : (l : LaneView) → (slice_index_or p.lanes g.shard l).box ≡ g.box
  pub here : (l : LaneView) → (slice_index_or p.lanes g.shard l).here ≡ true

-- the log has of the pass's client exactly what the pass sent to its shard, and its entries are of clients of the run
pub record IsTold (g : LogView) (p : PassView) : Type 0 where
  pub letters : (l : LaneView) → letters_of sender_of p.client g.taken ≡ (slice_index_or p.lanes g.shard l).sent
  pub entries : (l : LaneView) → entries_of p.client (entries_in g.taken) ≡ entries_in (slice_index_or p.lanes g.shard l).sent
  pub clients : All (λ e. e.client < g.clients) (entries_in g.taken)
