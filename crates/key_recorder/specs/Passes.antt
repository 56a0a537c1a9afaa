-- What is true of the fields of a pass.
use Rattle.std.specs.Prelude.{◌≡◌, ℕ, ◌-◌, ◌≤◌, true, false, List, [], ◌∷◌, ◌++◌, All, map}
use Rattle.key_recorder.specs.declared.letters.RecordLetter.{RecordLetter}
use Rattle.key_recorder.specs.declared.letters.RecordLetter.TheVariants.{End}
use Rattle.key_recorder.specs.declared.pass.Lane.{Lane}
use Rattle.key_recorder.specs.declared.pass.Lane.TheVariants.{Here, Gone}
use Rattle.key_recorder.specs.declared.pass.RecorderPass.TheInside.{Inside}
use Rattle.key_recorder.specs.Letters.{has_ended}
use Rattle.key_recorder.specs.Recorders.{LaneView, PassView}

-- the lane as a caller's contract sees it
abbrev pub lane_of : Lane → LaneView
lane_of (Here p) = record { box = p.box; sent = p.sent; left = p.budget; here = true }
lane_of (Gone s) = record { box = s.value.box; sent = s.value.sent; left = s.value.budget; here = false }

-- the number of its sender
abbrev pub number_of : Lane → ℕ
number_of (Here p) = p.number
number_of (Gone s) = s.value.number

-- the lane after this letter was sent on it
abbrev pub sent_on : RecordLetter → Lane → Lane
sent_on x (Here p) = Here (record p { sent = p.sent ++ x ∷ []; budget = p.budget - 1 })
sent_on x (Gone s) = Gone s

-- of a pass that is open: the sender is there and may send at least one letter, and it sent no end
pub record IsOpenLane (client : ℕ) (l : Lane) : Type 0 where
  pub number : number_of l ≡ client
  pub here : (lane_of l).here ≡ true
  pub left : 1 ≤ (lane_of l).left
  pub not_ended : has_ended client (lane_of l).sent ≡ false

-- the end of this client was sent, alone and last
pub record IsEnded (client : ℕ) (sent : List RecordLetter) : Type 0 where
  pub before : List RecordLetter
  pub last : sent ≡ before ++ End client ∷ []
  pub alone : has_ended client before ≡ false

-- of a pass that was closed
pub record IsClosedLane (client : ℕ) (l : Lane) : Type 0 where
  pub number : number_of l ≡ client
  pub ended : IsEnded client (lane_of l).sent

-- each lane of a pass is open, or each was closed
pub record IsPass (p : Inside) : Type 0 where
  pub not_closed : p.closed ≡ false → All (IsOpenLane p.client) p.lanes.items
  pub closed : p.closed ≡ true → All (IsClosedLane p.client) p.lanes.items

-- the pass as a caller's contract sees it
abbrev pub view_of : Inside → PassView
view_of p = record { client = p.client; lanes = map lane_of p.lanes.items; closed = p.closed }
