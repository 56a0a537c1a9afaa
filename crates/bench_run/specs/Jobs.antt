-- A replica that serves until every client is done.
use Rattle.std.specs.Prelude.{◌≡◌, ℕ, ◌-◌, ◌<◌, ◌≤◌, List, [], ◌∷◌, ◌++◌, length, map, Contains, slice_index_or}
use Rattle.std.specs.Arc.{arc_value}
use Rattle.ticket_clock.specs.Seats.{ClockView, SeatView}
use Rattle.post_box.specs.Boxes.{BoxView, TakerView}
use Rattle.stale_model.specs.declared.store.Settings.{Settings}
use Rattle.stale_model.specs.declared.store.Request.{Request}
use Rattle.stale_model.specs.declared.store.Reply.{Reply}
use Rattle.stale_model.specs.declared.store.JournalEntry.{JournalEntry}
use Rattle.stale_model.specs.Settings.{AreSettings}
use Rattle.stale_model.specs.Journals.{IsJournal}
use Rattle.stale_model.specs.Serving.{served_after}
use Rattle.stale_model.specs.RecordedRuns.{requests_of}
use Rattle.run_laws.specs.Laws.{replies_to}
use Rattle.replica_node.specs.Replicas.{ReplicaView}
use Rattle.quorum_client.specs.declared.letters.Note.{Note}
use Rattle.quorum_client.specs.declared.letters.Note.TheVariants.{Ask, Done}
use Rattle.bench_run.specs.declared.job.ReplyRoute.{ReplyRoute}
use Rattle.bench_run.specs.declared.job.BenchEnd.{BenchEnd}

-- the requests among notes
abbrev pub asked_in : List Note → List Request
asked_in [] = []
asked_in (Ask q ∷ notes) = q ∷ asked_in notes
asked_in (Done client ∷ notes) = asked_in notes

-- the tickets at which the requests of a journal were served
abbrev pub serves_of : List JournalEntry → List ℕ
serves_of js = map (λ j. j.reply.serve) js

-- a replica with all that it needs to serve: the clock of the run, its seat, its inbox with the taker, and its routes by client
pub record JobView : Type 0 where
  pub settings : Settings
  pub clock : ClockView
  pub replica : ReplicaView
  pub seat : SeatView
  pub inbox : BoxView
  pub taker : TakerView Note
  pub routes : List ReplyRoute

-- the pass is of the route's box and of this replica, has sent nothing, and may send at least as many replies
pub record IsFreshReplyRoute (replica many : ℕ) (r : ReplyRoute) : Type 0 where
  pub own : r.pass.box ≡ arc_value r.to
  pub number : r.pass.number ≡ replica
  pub none : r.pass.sent ≡ []
  pub budget : many ≤ r.pass.budget

-- it has served nothing yet, and can serve and answer all that clients may send
pub record CanServe (j : JobView) : Type 0 where
  pub limits : AreSettings j.settings
  pub keys : j.replica.keys ≡ j.settings.keys
  pub nothing : j.replica.journal ≡ []
  pub own : j.seat.clock ≡ j.clock.id
  pub none_drawn : j.seat.drawn ≡ []
  pub left : j.replica.places ≤ j.seat.left
  pub inbox : j.taker.box ≡ j.inbox
  pub none_taken : j.taker.taken ≡ []
  pub as_many : length j.routes ≡ j.settings.clients
  pub routes : (client : ℕ) (r : ReplyRoute) → client < j.settings.clients → IsFreshReplyRoute j.replica.number j.settings.calls (slice_index_or j.routes client r)

-- the route after these replies were sent on it
abbrev pub with_replies : List Reply → ReplyRoute → ReplyRoute
with_replies replies r = record r { pass = record r.pass { sent = r.pass.sent ++ replies; budget = r.pass.budget - length replies } }

-- what it leaves: it has taken that each client is done; of the requests that it took it has served those that it admits; each client was sent the replies to its reads and writes
pub record IsServedOut (j : JobView) (e : BenchEnd) : Type 0 where
  pub done : (client : ℕ) → client < j.settings.clients → Contains e.taker.taken (Done client)
  pub box : e.taker.box ≡ j.taker.box
  pub replica : e.replica ≡ record j.replica { journal = e.replica.journal }
  pub journal : IsJournal j.replica.number e.replica.journal
  pub served : requests_of e.replica.journal ≡ served_after j.settings j.replica.places [] (asked_in e.taker.taken)
  pub seat : e.seat ≡ record j.seat { drawn = serves_of e.replica.journal; left = j.seat.left - length e.replica.journal; seen = e.seat.seen }
  pub as_many : length e.routes.items ≡ length j.routes
  pub routes : (client : ℕ) (r : ReplyRoute) → client < length j.routes
      → slice_index_or e.routes.items client r ≡ with_replies (replies_to client e.replica.journal) (slice_index_or j.routes client r)
