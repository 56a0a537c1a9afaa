-- The boxes of a run as their senders are split off, and the routes to them before anything is sent.
use Rattle.std.specs.Prelude.{◌≡◌, ℕ, ◌+◌, ◌-◌, ◌≤◌, List, [], ◌∷◌, ◌++◌, map}
use Rattle.std.specs.Arc.{arc_value}
use Rattle.std.specs.List.{range_with_len}
use Rattle.ticket_clock.specs.Seats.{SeatView, times}
use Rattle.post_box.specs.Boxes.{BoxView, SenderView, TakerView, WholeView}
use Rattle.stale_model.specs.declared.store.Reply.{Reply}
use Rattle.quorum_client.specs.declared.letters.Note.{Note}
use Rattle.quorum_client.specs.declared.letters.Route.{Route}
use Rattle.bench_run.specs.declared.job.ReplyRoute.{ReplyRoute}
use Rattle.bench_run.specs.declared.boxes.NoteBox.{NoteBox}
use Rattle.bench_run.specs.declared.boxes.ReplyBox.{ReplyBox}

-- a pass on which nothing was sent
abbrev pub first_sender : {M : Type 0} → BoxView → ℕ → ℕ → SenderView M
first_sender box number budget = record { box = box; number = number; sent = []; budget = budget }

-- the taker of a box, which has taken nothing
abbrev pub first_taker : {M : Type 0} → BoxView → TakerView M
first_taker box = record { box = box; taken = []; empties = 0 }

-- which boxes the replicas have
abbrev pub boxes_of : List NoteBox → List BoxView
boxes_of boxes = map (λ b. arc_value b.post) boxes

-- which inboxes the clients have
abbrev pub inboxes_of : List ReplyBox → List BoxView
inboxes_of inboxes = map (λ b. arc_value b.post) inboxes

-- what is left of the whole once one sender more was split off
abbrev pub without_sender : {M : Type 0} → ℕ → ℕ → WholeView M → WholeView M
without_sender number budget w = record w { budget = w.budget - budget; numbers = w.numbers ++ number ∷ [] }

-- the box of a replica, once one sender more was split off
abbrev pub notes_without : ℕ → ℕ → NoteBox → NoteBox
notes_without number budget b = record b { whole = without_sender number budget b.whole }

-- the inbox of a client likewise
abbrev pub replies_without : ℕ → ℕ → ReplyBox → ReplyBox
replies_without number budget b = record b { whole = without_sender number budget b.whole }

-- this sender can be split off
pub record CanSplit (M : Type 0) (number many : ℕ) (box : BoxView) (w : WholeView M) : Type 0 where
  pub own : w.box ≡ box
  pub new : times number w.numbers ≡ 0
  pub budget : many ≤ w.budget

-- the senders 0 to given - 1 were split off, none is back, and so much of the budget is left
pub record IsGiven (M : Type 0) (given left : ℕ) (box : BoxView) (w : WholeView M) : Type 0 where
  pub own : w.box ≡ box
  pub numbers : w.numbers ≡ range_with_len 0 given
  pub gathered : w.gathered ≡ []
  pub sent : w.sent ≡ []
  pub budget : w.budget ≡ left

-- the box of a replica can give this sender
abbrev pub CanNotes : ℕ → ℕ → NoteBox → Type 0
CanNotes number budget b = CanSplit Note number budget (arc_value b.post) b.whole

-- the inbox of a client likewise
abbrev pub CanReplies : ℕ → ℕ → ReplyBox → Type 0
CanReplies number budget b = CanSplit Reply number budget (arc_value b.post) b.whole

-- the box of a replica gave so many senders
abbrev pub AreNotesGiven : ℕ → ℕ → NoteBox → Type 0
AreNotesGiven given left b = IsGiven Note given left (arc_value b.post) b.whole

-- the inbox of a client likewise
abbrev pub AreRepliesGiven : ℕ → ℕ → ReplyBox → Type 0
AreRepliesGiven given left b = IsGiven Reply given left (arc_value b.post) b.whole

-- a route to the box of a replica, on which nothing was sent
pub record IsFirstRoute (client budget : ℕ) (b : NoteBox) (r : Route) : Type 0 where
  pub to : arc_value r.to ≡ arc_value b.post
  pub pass : r.pass ≡ first_sender (arc_value b.post) client budget

-- a route to the inbox of a client, on which nothing was sent
pub record IsFirstReplyRoute (replica budget : ℕ) (b : ReplyBox) (r : ReplyRoute) : Type 0 where
  pub to : arc_value r.to ≡ arc_value b.post
  pub pass : r.pass ≡ first_sender (arc_value b.post) replica budget

-- so many of the seat's tickets went to other seats
pub record IsSplitBy (given : ℕ) (before after : SeatView) : Type 0 where
  pub rest : after ≡ record before { left = after.left }
  pub left : after.left + given ≡ before.left
