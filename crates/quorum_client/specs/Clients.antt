-- A client as a caller's contract sees it, and what one call does.
use Rattle.std.specs.Prelude.{◌≡◌, ℕ, ◌+◌, ◌-◌, ◌<◌, ◌≤◌, List, [], ◌∷◌, ◌++◌, length, drop, All}
use Rattle.ticket_clock.specs.Seats.{SeatView}
use Rattle.post_box.specs.Boxes.{BoxView, TakerView}
use Rattle.stale_model.specs.declared.Kind.{Kind}
use Rattle.stale_model.specs.declared.Kind.TheVariants.{Read, Write}
use Rattle.stale_model.specs.declared.store.PlanCall.{PlanCall}
use Rattle.stale_model.specs.declared.store.Reply.{Reply}
use Rattle.stale_model.specs.declared.store.Entry.{Entry}
use Rattle.stale_model.specs.Calls.{no_took, taken_by}
use Rattle.stale_model.specs.RecordedRuns.{IsAsPlanned, ReadsFreshest}
use Rattle.quorum_client.specs.declared.letters.Route.{Route}
use Rattle.quorum_client.specs.Routes.{IsSentOn}
use Rattle.quorum_client.specs.FirstReplies.{IsGathered}

-- a client: `calls` is how many calls each client makes, `left` the planned calls that it has not made, `made` how many it has made
pub record ClientView : Type 0 where
  pub number : ℕ
  pub calls : ℕ
  pub read_quorum : ℕ
  pub write_quorum : ℕ
  pub left : List PlanCall
  pub made : ℕ
  pub routes : List Route
  pub inbox : BoxView
  pub taker : TakerView Reply
  pub seat : SeatView

-- how many replies a call of this kind takes
abbrev pub quorum_of : ClientView → Kind → ℕ
quorum_of c Read = c.read_quorum
quorum_of c Write = c.write_quorum

-- what a call makes of a client, and its entry
pub record IsCalled (c d : ClientView) (e : Entry) : Type 0 where
  pub call : PlanCall
  pub left : c.left ≡ call ∷ d.left
  pub client : e.client ≡ c.number
  pub planned : IsAsPlanned (c.made + 1) call e
  pub freshest : ReadsFreshest e
  pub gathered : IsGathered e.seq (length c.routes) c.taker.taken d.taker.taken (taken_by e)
  pub count : e.took_count ≡ quorum_of c e.kind
  pub many : length (taken_by e) ≡ e.took_count
  pub others : All (λ t. t ≡ no_took) (drop e.took_count e.took)
  pub served : All (λ t. t.serve < e.finish) (taken_by e)
  pub after_seen : c.seat.seen ≤ e.start
  pub ordered : e.start < e.finish
  pub sent : IsSentOn e c.routes d.routes
  pub seat : d.seat ≡ record c.seat { drawn = c.seat.drawn ++ e.start ∷ e.finish ∷ []; left = c.seat.left - 2; seen = e.finish + 1 }
  pub own : d.taker.box ≡ c.taker.box
  pub rest : d ≡ record c { left = d.left; made = c.made + 1; routes = d.routes; taker = d.taker; seat = d.seat }
