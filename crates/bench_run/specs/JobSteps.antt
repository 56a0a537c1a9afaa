-- What a replica as a job keeps, and what one request makes of it.
use Rattle.std.specs.Prelude.{◌≡◌, ℕ, ◌+◌, ◌-◌, ◌<◌, ◌≤◌, ◌==◌, Bool, true, false, if◌then◌else◌, List, [], ◌∷◌, ◌++◌, length, All, replicate, slice_index_or}
use Rattle.std.specs.Arc.{arc_value}
use Rattle.stale_model.specs.declared.store.Request.{Request}
use Rattle.stale_model.specs.declared.store.Reply.{Reply}
use Rattle.stale_model.specs.declared.store.JournalEntry.{JournalEntry}
use Rattle.stale_model.specs.Settings.{AreSettings}
use Rattle.stale_model.specs.Journals.{IsServed}
use Rattle.stale_model.specs.Serving.{answered_to, admits}
use Rattle.stale_model.specs.RecordedRuns.{requests_of}
use Rattle.run_laws.specs.Laws.{replies_to}
use Rattle.bench_run.specs.declared.job.ReplyRoute.{ReplyRoute}
use Rattle.bench_run.specs.declared.job.Caller.{Caller}
use Rattle.bench_run.specs.declared.job.JobParts.{JobParts}
use Rattle.bench_run.specs.Jobs.{JobView, with_replies}

-- a job as a caller sees it
abbrev pub view_of : JobParts → JobView
view_of p = record {
  settings = p.settings;
  clock = arc_value p.clock;
  replica = p.replica;
  seat = p.seat;
  inbox = arc_value p.inbox;
  taker = p.taker;
  routes = p.routes.items;
}

-- no client was sent a reply, and none is done
abbrev pub IsFreshJob : JobParts → Type 0
IsFreshJob p = p.callers.items ≡ replicate p.settings.clients (record { answered = 0; done = false })

-- the requests that it has served
abbrev pub served_by : JobParts → List Request
served_by p = requests_of p.replica.journal

-- whether it serves a request after these
abbrev pub admits_now : JobParts → Request → Bool
admits_now p q = admits p.settings p.replica.places (served_by p) q

-- the pass is of the route's box and of this replica, and may send at least the replies that are left of those to all calls
pub record IsOpenReplyRoute (replica calls answered : ℕ) (r : ReplyRoute) : Type 0 where
  pub own : r.pass.box ≡ arc_value r.to
  pub number : r.pass.number ≡ replica
  pub budget : calls ≤ answered + r.pass.budget

-- it can serve and answer what it admits, and it knows how many replies each client was sent
pub record IsReadyJob (p : JobParts) : Type 0 where
  pub limits : AreSettings p.settings
  pub own : p.seat.clock ≡ (arc_value p.clock).id
  pub inbox : p.taker.box ≡ arc_value p.inbox
  pub keys : p.replica.keys ≡ p.settings.keys
  pub left : p.replica.places ≤ length p.replica.journal + p.seat.left
  pub later : All (λ j. j.reply.serve < p.seat.seen) p.replica.journal
  pub as_many : length p.routes.items ≡ p.settings.clients
  pub routes : (client : ℕ) (r : ReplyRoute) → client < p.settings.clients
      → IsOpenReplyRoute p.replica.number p.settings.calls (length (answered_to client (served_by p))) (slice_index_or p.routes.items client r)
  pub callers : length p.callers.items ≡ p.settings.clients
  pub answered : (client : ℕ) (c : Caller) → client < p.settings.clients → (slice_index_or p.callers.items client c).answered ≡ length (answered_to client (served_by p))

-- what is kept of a client after one more request
abbrev pub after_request : Request → ℕ → Caller → Caller
after_request q client c = record c { answered = c.answered + length (answered_to client (q ∷ [])) }

-- a request with its reply
abbrev pub entry_of : Request → Reply → JournalEntry
entry_of q reply = record { request = q; reply = reply }

-- it has served this request: the entry stands last in the journal, and the client was sent the reply, but of a repair none
pub record IsServedOne (p q : JobParts) (request : Request) : Type 0 where
  pub reply : Reply
  pub served : IsServed p.replica.number p.replica.journal (entry_of request reply)
  pub replica : q.replica ≡ record p.replica { journal = p.replica.journal ++ entry_of request reply ∷ [] }
  pub seat : q.seat ≡ record p.seat { drawn = p.seat.drawn ++ reply.serve ∷ []; left = p.seat.left - 1; seen = q.seat.seen }
  pub later : All (λ j. j.reply.serve < q.seat.seen) q.replica.journal
  pub routes_many : length q.routes.items ≡ length p.routes.items
  pub routes : (client : ℕ) (r : ReplyRoute) → client < length p.routes.items
      → slice_index_or q.routes.items client r ≡ with_replies (replies_to client (entry_of request reply ∷ [])) (slice_index_or p.routes.items client r)
  pub callers_many : length q.callers.items ≡ length p.callers.items
  pub callers : (client : ℕ) (c : Caller) → client < length p.callers.items
      → slice_index_or q.callers.items client c ≡ after_request request client (slice_index_or p.callers.items client c)
  pub rest : q ≡ record p { replica = q.replica; seat = q.seat; routes = q.routes; callers = q.callers }

-- what is kept of a client once this one is done
abbrev pub with_done : ℕ → ℕ → Caller → Caller
with_done done client c = if client == done then record c { done = true } else c

-- it has marked this client as done, if it is of the run
pub record IsMarkedDone (p q : JobParts) (done : ℕ) : Type 0 where
  pub callers_many : length q.callers.items ≡ length p.callers.items
  pub callers : (client : ℕ) (c : Caller) → client < length p.callers.items
      → slice_index_or q.callers.items client c ≡ with_done done client (slice_index_or p.callers.items client c)
  pub rest : q ≡ record p { callers = q.callers }
