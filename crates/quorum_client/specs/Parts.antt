-- A client inside.
use Rattle.std.specs.Prelude.{◌≡◌, ℕ, ◌+◌, ◌-◌, ◌*◌, ◌^◌, ◌<◌, ◌≤◌, [], ◌∷◌, ◌++◌, length, map, drop, All, vec_len}
use Rattle.std.specs.Arc.{arc_value}
use Rattle.stale_model.specs.declared.store.PlanCall.{PlanCall}
use Rattle.stale_model.specs.declared.store.Entry.{Entry}
use Rattle.stale_model.specs.Calls.{no_took, taken_by, request_of}
use Rattle.quorum_client.specs.declared.letters.Note.TheVariants.{Ask}
use Rattle.quorum_client.specs.declared.client.Parts.{Parts}
use Rattle.quorum_client.specs.Routes.{IsReadyRoute, with_sent}
use Rattle.quorum_client.specs.FirstReplies.{IsGathered}
use Rattle.quorum_client.specs.Clients.{ClientView}

-- a client as a caller sees it
abbrev pub view_of : Parts → ClientView
view_of p = record {
  number = p.number;
  calls = p.calls;
  read_quorum = p.read_quorum;
  write_quorum = p.write_quorum;
  left = drop p.made p.plan;
  made = p.made;
  routes = p.routes.items;
  inbox = arc_value p.inbox;
  taker = p.taker;
  seat = p.seat;
}

-- a client can make the calls that are left, and then say that it is done
pub record IsReady (p : Parts) : Type 0 where
  pub few : vec_len p.routes ≤ 7
  pub reads : (1 ≤ p.read_quorum) × (p.read_quorum ≤ 7)
  pub writes : (1 ≤ p.write_quorum) × (p.write_quorum ≤ 7)
  pub made : p.made ≤ length p.plan
  pub last : p.number * p.calls + length p.plan < 2 ^ 32
  pub routes : All (λ r. IsReadyRoute p.number (2 * (length p.plan - p.made) + 1) r) p.routes.items
  pub own : p.taker.box ≡ arc_value p.inbox
  pub left : 2 * (length p.plan - p.made) ≤ p.seat.left

-- what the round of a call makes of a client: all but a read's answer and its repairs
pub record IsRound (p q : Parts) (call : PlanCall) (quorum : ℕ) (e : Entry) : Type 0 where
  pub client : e.client ≡ p.number
  pub seq : e.seq ≡ p.made + 1
  pub kind : e.kind ≡ call.kind
  pub key : e.key ≡ call.key
  pub value : e.value ≡ call.value
  pub gathered : IsGathered e.seq (length p.routes.items) p.taker.taken q.taker.taken (taken_by e)
  pub count : e.took_count ≡ quorum
  pub many : length (taken_by e) ≡ e.took_count
  pub others : All (λ t. t ≡ no_took) (drop e.took_count e.took)
  pub served : All (λ t. t.serve < e.finish) (taken_by e)
  pub after_seen : p.seat.seen ≤ e.start
  pub ordered : e.start < e.finish
  pub sent : q.routes.items ≡ map (with_sent (Ask (request_of e) ∷ [])) p.routes.items
  pub seat : q.seat ≡ record p.seat { drawn = p.seat.drawn ++ e.start ∷ e.finish ∷ []; left = p.seat.left - 2; seen = e.finish + 1 }
  pub own : q.taker.box ≡ p.taker.box
  pub rest : q ≡ record p { made = p.made + 1; routes = q.routes; taker = q.taker; seat = q.seat }
