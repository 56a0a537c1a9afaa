-- What is known when the passes of a run come back to their boxes and to the clock.
use Rattle.std.specs.Prelude.{◌≡◌, ℕ, ◌+◌, ◌<◌, true, List, [], ◌∷◌, ◌++◌, length, flat_map, Option, Some, None, slice_get, slice_index_or}
use Rattle.std.specs.Arc.{arc_value}
use mathlib.Core.List.{IsPrefix}
use Rattle.ticket_clock.specs.Seats.{SeatView, times}
use Rattle.post_box.specs.Boxes.{SenderView, WholeView, letters_of}
use Rattle.stale_model.specs.declared.store.Reply.{Reply}
use Rattle.quorum_client.specs.declared.letters.Note.{Note}
use Rattle.quorum_client.specs.declared.letters.Route.{Route}
use Rattle.quorum_client.specs.declared.client.ClientEnd.{ClientEnd}
use Rattle.quorum_client.specs.Letters.{sender_of}
use Rattle.bench_run.specs.declared.job.ReplyRoute.{ReplyRoute}
use Rattle.bench_run.specs.declared.job.BenchEnd.{BenchEnd}
use Rattle.bench_run.specs.declared.boxes.NoteBox.{NoteBox}
use Rattle.bench_run.specs.declared.boxes.ReplyBox.{ReplyBox}

-- the replica that sent a reply
abbrev pub replier_of : Reply → ℕ
replier_of reply = reply.replica

-- the whole, once this sender came back
abbrev pub with_sender : {M : Type 0} → SenderView M → WholeView M → WholeView M
with_sender p w = record w { budget = w.budget + p.budget; gathered = w.gathered ++ p.number ∷ []; sent = w.sent ++ p.sent }

-- the box of a replica, once the sender of this route came back
abbrev pub with_route : Route → NoteBox → NoteBox
with_route r b = record b { whole = with_sender r.pass b.whole }

-- what stands on a route, or nothing where there is none
abbrev pub sent_on : Option Route → List Note
sent_on (Some r) = r.pass.sent
sent_on None = []

-- what a client sent to a replica
abbrev pub sent_by : ℕ → ClientEnd → List Note
sent_by replica e = sent_on (slice_get e.routes replica)

-- the box of a replica, whose passes are not all back
pub record IsOwnNotes (b : NoteBox) : Type 0 where
  pub own : b.whole.box ≡ arc_value b.post

-- the inbox of a client likewise
pub record IsOwnReplies (b : ReplyBox) : Type 0 where
  pub own : b.whole.box ≡ arc_value b.post

-- there is a route for each of these boxes, and the one at each place is of the box at that place
pub record AreNoteRoutes (boxes : List NoteBox) (routes : List Route) : Type 0 where
  pub as_many : length routes ≡ length boxes
  pub each : (replica : ℕ) (r : Route) (b : NoteBox) → replica < length boxes → (slice_index_or routes replica r).pass.box ≡ arc_value (slice_index_or boxes replica b).post

-- there is a route for each of these inboxes likewise
pub record AreReplyRoutes (boxes : List ReplyBox) (routes : List ReplyRoute) : Type 0 where
  pub as_many : length routes ≡ length boxes
  pub each : (client : ℕ) (r : ReplyRoute) (b : ReplyBox) → client < length boxes → (slice_index_or routes client r).pass.box ≡ arc_value (slice_index_or boxes client b).post

-- the end of a client is of this clock, its taker is of its inbox, and its routes are of the boxes of the replicas
pub record IsClientOf (seat : SeatView) (inbox : ReplyBox) (boxes : List NoteBox) (e : ClientEnd) : Type 0 where
  pub seat_is : e.seat.clock ≡ seat.clock
  pub taker : e.taker.box ≡ arc_value inbox.post
  pub routes : AreNoteRoutes boxes e.routes

-- the end of a replica likewise
pub record IsReplicaOf (seat : SeatView) (inbox : NoteBox) (boxes : List ReplyBox) (e : BenchEnd) : Type 0 where
  pub seat_is : e.seat.clock ≡ seat.clock
  pub taker : e.taker.box ≡ arc_value inbox.post
  pub routes : AreReplyRoutes boxes e.routes.items

-- an inbox, once its taker came back: what was taken is known, and that each letter is of a replica whose number was given out
pub record HasReplies (e : ClientEnd) (before after : ReplyBox) : Type 0 where
  pub post : after.post ≡ before.post
  pub whole : after.whole ≡ record before.whole { takes = true; taken = e.taker.taken; empties = e.taker.empties }
  pub known : (s : ℕ) → 0 < length (letters_of replier_of s e.taker.taken) → 0 < times s before.whole.numbers

-- the box of a replica, once all clients sent back their passes
pub record HasNotes (replica : ℕ) (ends : List ClientEnd) (before after : NoteBox) : Type 0 where
  pub post : after.post ≡ before.post
  pub numbers : after.whole.numbers ≡ before.whole.numbers
  pub box : after.whole.box ≡ before.whole.box
  pub sent : after.whole.sent ≡ before.whole.sent ++ flat_map (sent_by replica) ends
  pub gathered : (k : ℕ) (e : ClientEnd) (r : Route) → slice_get ends k ≡ Some e → slice_get e.routes replica ≡ Some r → 0 < times r.pass.number after.whole.gathered

-- what the end of a replica tells of its box, to which all clients' passes are back: of each client it took a beginning of what was sent, and it took of clients alone whose numbers were given out
pub record IsToldNotes (b : NoteBox) (e : BenchEnd) : Type 0 where
  pub known : (s : ℕ) → 0 < length (letters_of sender_of s e.taker.taken) → 0 < times s b.whole.numbers
  pub taken : (s : ℕ) → 0 < times s b.whole.gathered → IsPrefix (letters_of sender_of s e.taker.taken) (letters_of sender_of s b.whole.sent)

-- what it tells of the inbox of a client: the client took of this replica a beginning of what was sent on its route
abbrev pub IsToldReplies : ReplyBox → ReplyRoute → Type 0
IsToldReplies b r = IsPrefix (letters_of replier_of r.pass.number b.whole.taken) r.pass.sent

-- what the end of a replica tells of its box and of the ends of all clients: of each client it took a beginning of what was sent, and it took of clients alone whose numbers were given out
pub record AreToldNotes (replica : ℕ) (clients : List ClientEnd) (b : NoteBox) (e : BenchEnd) : Type 0 where
  pub known : (s : ℕ) → 0 < length (letters_of sender_of s e.taker.taken) → 0 < times s b.whole.numbers
  pub taken : (k : ℕ) (c : ClientEnd) (r : Route) → slice_get clients k ≡ Some c → slice_get c.routes replica ≡ Some r
      → IsPrefix (letters_of sender_of r.pass.number e.taker.taken) (letters_of sender_of r.pass.number (b.whole.sent ++ flat_map (sent_by replica) clients))

-- what it tells of the end of a client: the client took of this replica a beginning of what was sent on its route
abbrev pub AreTakenReplies : ClientEnd → ReplyRoute → Type 0
AreTakenReplies c r = IsPrefix (letters_of replier_of r.pass.number c.taker.taken) r.pass.sent

-- an inbox of which all but the senders that came back is as before
pub record IsSameInbox (before after : ReplyBox) : Type 0 where
  pub post : after.post ≡ before.post
  pub box : after.whole.box ≡ before.whole.box
  pub takes : after.whole.takes ≡ before.whole.takes
  pub taken : after.whole.taken ≡ before.whole.taken

-- the seat, with the tickets of all these seats one after the other
pub record HasTickets (tickets : List ℕ) (more : ℕ) (before after : SeatView) : Type 0 where
  pub clock : after.clock ≡ before.clock
  pub drawn : after.drawn ≡ before.drawn ++ tickets
  pub left : after.left ≡ before.left + more
