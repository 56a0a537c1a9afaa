-- A client from what it needs to what it leaves.
use Rattle.std.specs.Prelude.{◌≡◌, ℕ, ◌+◌, ◌-◌, ◌*◌, ◌<◌, ◌≤◌, List, [], ◌∷◌, ◌++◌, length, slice_index_or, vec_len, All}
use Rattle.std.specs.Arc.{arc_value}
use Rattle.ticket_clock.specs.Seats.{ClockView}
use Rattle.stale_model.specs.declared.store.Settings.{Settings}
use Rattle.stale_model.specs.declared.store.Plan.{Plan}
use Rattle.stale_model.specs.declared.store.Entry.{Entry}
use Rattle.stale_model.specs.Settings.{calls_of}
use Rattle.run_laws.specs.Parts.{IsClientShare}
use Rattle.quorum_client.specs.declared.letters.Note.TheVariants.{Done}
use Rattle.quorum_client.specs.declared.letters.Route.{Route}
use Rattle.quorum_client.specs.declared.client.ClientEnd.{ClientEnd}
use Rattle.quorum_client.specs.Routes.{IsReadyRoute, with_sent}
use Rattle.key_recorder.specs.Letters.{entries_in}
use Rattle.key_recorder.specs.Recorders.{LogView}
use Rattle.bench_run.specs.declared.parts.ClientParts.{ClientParts}
use Rattle.bench_run.specs.Clients.{tickets_of_calls, notes_to}
use Rattle.bench_run.specs.Logs.{AreLogged}

-- what client k needs to make all calls of the plan that are its own
pub record CanMakeCalls (s : Settings) (plan : Plan) (clock : ClockView) (k : ℕ) (c : ClientParts) : Type 0 where
  pub planned : c.calls ≡ calls_of plan k
  pub as_planned : length c.calls ≡ s.calls
  pub seat_of : c.seat.clock ≡ clock.id
  pub none_drawn : c.seat.drawn ≡ []
  pub left : 2 * s.calls ≤ c.seat.left
  pub taker : c.taker.box ≡ arc_value c.inbox
  pub none_taken : c.taker.taken ≡ []
  pub as_many : vec_len c.routes ≡ s.replicas
  pub routes : All (IsReadyRoute k (2 * s.calls + 1)) c.routes.items

-- what these calls left of it: its share of the run, what it drew, and on each route what the calls send there, and that it is done
pub record IsEndOf (s : Settings) (plan : Plan) (k : ℕ) (c : ClientParts) (es : List Entry) (e : ClientEnd) : Type 0 where
  pub share : IsClientShare s plan k es e.taker.taken
  pub seat : e.seat ≡ record c.seat { drawn = tickets_of_calls es; left = c.seat.left - 2 * length es; seen = e.seat.seen }
  pub box : e.taker.box ≡ c.taker.box
  pub as_many : length e.routes ≡ vec_len c.routes
  pub routes : (replica : ℕ) (r : Route) → replica < vec_len c.routes
      → slice_index_or e.routes replica r ≡ with_sent (notes_to replica es ++ Done k ∷ []) (slice_index_or c.routes.items replica r)

-- what the clients of a run left, with the calls of each: their ends, and what the logs have of them
pub record AreCalled (s : Settings) (plan : Plan) (clients : List ClientParts) (ends : List ClientEnd) (logs : List LogView) : Type 0 where
  pub calls : ℕ → List Entry
  pub as_many_ends : length ends ≡ s.clients
  pub each_end : (k : ℕ) (c : ClientParts) (e : ClientEnd) → k < s.clients → IsEndOf s plan k (slice_index_or clients k c) (calls k) (slice_index_or ends k e)
  pub as_many_logs : length logs ≡ s.shards
  pub each_log : (k : ℕ) (g : LogView) → k < s.shards → AreLogged s calls k (entries_in (slice_index_or logs k g).taken)
