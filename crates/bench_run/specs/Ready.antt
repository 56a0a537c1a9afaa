-- What each replica and each client of a run needs before it starts.
use Rattle.std.specs.Prelude.{◌≡◌, ℕ, ◌+◌, ◌*◌, ◌<◌, List, [], length, map, slice_index_or, vec_len}
use Rattle.std.specs.Arc.{arc_value}
use Rattle.ticket_clock.specs.Seats.{ClockView, SeatView}
use Rattle.stale_model.specs.declared.store.Settings.{Settings}
use Rattle.stale_model.specs.declared.store.Plan.{Plan}
use Rattle.quorum_client.specs.Routes.{IsReadyRoute}
use Rattle.quorum_client.specs.declared.letters.Route.{Route}
use Rattle.bench_run.specs.declared.job.ReplyRoute.{ReplyRoute}
use Rattle.bench_run.specs.declared.boxes.NoteBox.{NoteBox}
use Rattle.bench_run.specs.declared.boxes.ReplyBox.{ReplyBox}
use Rattle.bench_run.specs.declared.job.JobParts.{JobParts}
use Rattle.bench_run.specs.declared.parts.ClientParts.{ClientParts}
use Rattle.bench_run.specs.Jobs.{JobView, IsFreshReplyRoute}
use Rattle.bench_run.specs.JobSteps.{view_of, IsFreshJob}
use Rattle.bench_run.specs.Openings.{AreNotesGiven, AreRepliesGiven}

-- how many calls all clients make
abbrev pub call_count : Settings → ℕ
call_count s = s.clients * s.calls

-- how many requests and repairs a replica may be sent
abbrev pub places : Settings → ℕ
places s = 2 * call_count s

-- how many tickets a run may draw: two a call, and one for each request and repair at each replica
abbrev pub tickets : Settings → ℕ
tickets s = call_count s * (2 * s.replicas + 2)

-- what replica k needs: its box is the given one, and its routes are to the given inboxes
pub record IsReadyReplica (s : Settings) (clock : ClockView) (k : ℕ) (box : NoteBox) (inboxes : List ReplyBox) (j : JobView) : Type 0 where
  pub settings_are : j.settings ≡ s
  pub clock_is : j.clock ≡ clock
  pub replica : j.replica ≡ record { number = k; keys = s.keys; places = places s; journal = [] }
  pub seat_of : j.seat.clock ≡ clock.id
  pub none_drawn : j.seat.drawn ≡ []
  pub left : j.seat.left ≡ places s
  pub inbox : j.inbox ≡ arc_value box.post
  pub taker : j.taker.box ≡ arc_value box.post
  pub none_taken : j.taker.taken ≡ []
  pub as_many : length j.routes ≡ s.clients
  pub routes : (c : ℕ) (d : ReplyRoute) → c < s.clients → IsFreshReplyRoute k s.calls (slice_index_or j.routes c d)
  pub to : (c : ℕ) (d : ReplyRoute) (b : ReplyBox) → c < s.clients → arc_value (slice_index_or j.routes c d).to ≡ arc_value (slice_index_or inboxes c b).post

-- what client k needs: its planned calls, its inbox is the given one, and its routes are to the given boxes
pub record IsReadyClient (s : Settings) (clock : ClockView) (k : ℕ) (inbox : ReplyBox) (boxes : List NoteBox) (c : ClientParts) : Type 0 where
  pub calls : length c.calls ≡ s.calls
  pub seat_of : c.seat.clock ≡ clock.id
  pub none_drawn : c.seat.drawn ≡ []
  pub left : c.seat.left ≡ 2 * s.calls
  pub inbox_is : arc_value c.inbox ≡ arc_value inbox.post
  pub taker : c.taker.box ≡ arc_value inbox.post
  pub none_taken : c.taker.taken ≡ []
  pub as_many : vec_len c.routes ≡ s.replicas
  pub routes : (r : ℕ) (d : Route) → r < s.replicas → IsReadyRoute k (2 * s.calls + 1) (slice_index_or c.routes.items r d)
  pub none_sent : (r : ℕ) (d : Route) → r < s.replicas → (slice_index_or c.routes.items r d).pass.sent ≡ []
  pub to : (r : ℕ) (d : Route) (b : NoteBox) → r < s.replicas → arc_value (slice_index_or c.routes.items r d).to ≡ arc_value (slice_index_or boxes r b).post

-- the plan of the clients
abbrev pub plan_in : List ClientParts → Plan
plan_in clients = record { clients = map (λ c. c.calls) clients }

-- the parts of each client, whose inboxes are the given ones
pub record AreReadyClients (s : Settings) (clock : ClockView) (inboxes : List ReplyBox) (boxes : List NoteBox) (clients : List ClientParts) : Type 0 where
  pub as_many : length clients ≡ s.clients
  pub each : (k : ℕ) (b : ReplyBox) (c : ClientParts) → k < s.clients → IsReadyClient s clock k (slice_index_or inboxes k b) boxes (slice_index_or clients k c)

-- the parts of each replica, whose boxes are the given ones
pub record AreReadyReplicas (s : Settings) (clock : ClockView) (boxes : List NoteBox) (inboxes : List ReplyBox) (replicas : List JobParts) : Type 0 where
  pub as_many : length replicas ≡ s.replicas
  pub fresh : (k : ℕ) (r : JobParts) → k < s.replicas → IsFreshJob (slice_index_or replicas k r)
  pub each : (k : ℕ) (b : NoteBox) (r : JobParts) → k < s.replicas → IsReadyReplica s clock k (slice_index_or boxes k b) inboxes (view_of (slice_index_or replicas k r))

-- the boxes, whose senders are all split off
pub record AreReadyBoxes (s : Settings) (boxes : List NoteBox) (inboxes : List ReplyBox) : Type 0 where
  pub as_many : length boxes ≡ s.replicas
  pub as_many_inboxes : length inboxes ≡ s.clients
  pub each : (k : ℕ) (b : NoteBox) → k < s.replicas → AreNotesGiven s.clients 0 (slice_index_or boxes k b)
  pub each_inbox : (k : ℕ) (b : ReplyBox) → k < s.clients → AreRepliesGiven s.replicas 0 (slice_index_or inboxes k b)

-- the clock has all tickets, and its first seat none
pub record IsReadyClock (s : Settings) (clock : ClockView) (seat : SeatView) : Type 0 where
  pub budget : clock.budget ≡ tickets s
  pub own : seat.clock ≡ clock.id
  pub none_drawn : seat.drawn ≡ []
  pub none_left : seat.left ≡ 0
