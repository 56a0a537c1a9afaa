-- A client at the start and at the end of its calls.
use Rattle.std.specs.Prelude.{◌≡◌, ℕ, ◌*◌, ◌-◌, ◌<◌, List, [], ◌∷◌, ◌++◌, length, map, flat_map, slice_index_or}
use Rattle.stale_model.specs.declared.store.Settings.{Settings}
use Rattle.stale_model.specs.declared.store.Plan.{Plan}
use Rattle.stale_model.specs.declared.store.Entry.{Entry}
use Rattle.stale_model.specs.Settings.{calls_of}
use Rattle.stale_model.specs.Calls.{sent_to}
use Rattle.quorum_client.specs.declared.letters.Note.{Note}
use Rattle.quorum_client.specs.declared.letters.Note.TheVariants.{Ask}
use Rattle.quorum_client.specs.declared.letters.Route.{Route}
use Rattle.quorum_client.specs.Routes.{with_sent}
use Rattle.quorum_client.specs.Clients.{ClientView, IsCalled}

-- the client after these calls, one after the other
abbrev pub Ran : ClientView → List Entry → ClientView → Type 0
Ran c [] d = d ≡ c
Ran c (e ∷ es) d = (m : ClientView) × IsCalled c m e × Ran m es d

-- a client that has made none of its planned calls, of which it has as many as the plan says
pub record IsFirst (settings : Settings) (plan : Plan) (client : ℕ) (c : ClientView) : Type 0 where
  pub number : c.number ≡ client
  pub calls : c.calls ≡ settings.calls
  pub reads : c.read_quorum ≡ settings.read_quorum
  pub writes : c.write_quorum ≡ settings.write_quorum
  pub left : c.left ≡ calls_of plan client
  pub made : c.made ≡ 0
  pub many : length c.routes ≡ settings.replicas
  pub taken : c.taker.taken ≡ []
  pub drawn : c.seat.drawn ≡ []

-- the tickets of some calls: the start and the finish of each
abbrev pub tickets_of_calls : List Entry → List ℕ
tickets_of_calls es = flat_map (λ e. e.start ∷ e.finish ∷ []) es

-- what some calls send to a replica
abbrev pub notes_to : ℕ → List Entry → List Note
notes_to replica es = map Ask (flat_map (sent_to replica) es)

-- what calls leave of a client: what they drew, what they sent on each route, and all else that stays
pub record IsAfterCalls (c : ClientView) (es : List Entry) (d : ClientView) : Type 0 where
  pub number : d.number ≡ c.number
  pub inbox : d.inbox ≡ c.inbox
  pub box : d.taker.box ≡ c.taker.box
  pub seat : d.seat ≡ record c.seat { drawn = c.seat.drawn ++ tickets_of_calls es; left = c.seat.left - 2 * length es; seen = d.seat.seen }
  pub as_many : length d.routes ≡ length c.routes
  pub routes : (replica : ℕ) (r : Route) → replica < length c.routes → slice_index_or d.routes replica r ≡ with_sent (notes_to replica es) (slice_index_or c.routes replica r)
