-- What a client and a replica need, of what was made for them.
use Rattle.std.proofs.Common.{◌≡◌, ℕ, ◌+◌, ◌*◌, List, [], length, ap, sym, ◌∙◌, arith}
use Rattle.std.specs.Arc.{arc_value}
use Rattle.std.specs.List.{AllZip}
use Rattle.ticket_clock.specs.Seats.{ClockView, SeatView, IsFresh}
use Rattle.post_box.specs.Boxes.{SenderView, TakerView}
use Rattle.stale_model.specs.declared.store.Settings.{Settings}
use Rattle.stale_model.specs.declared.store.Reply.{Reply}
use Rattle.quorum_client.specs.declared.letters.Note.{Note}
use Rattle.quorum_client.specs.declared.letters.Route.{Route}
use Rattle.bench_run.specs.declared.boxes.NoteBox.{NoteBox}
use Rattle.bench_run.specs.declared.boxes.ReplyBox.{ReplyBox}
use Rattle.bench_run.specs.declared.job.ReplyRoute.{ReplyRoute}
use Rattle.bench_run.specs.declared.parts.ClientParts.{ClientParts}
use Rattle.quorum_client.specs.Routes.{IsReadyRoute}
use Rattle.bench_run.specs.Jobs.{JobView, IsFreshReplyRoute}
use Rattle.bench_run.specs.Openings.{first_taker, IsFirstRoute, IsFirstReplyRoute}
use Rattle.bench_run.specs.Ready.{places, IsReadyClient, IsReadyReplica}
use Rattle.bench_run.proofs.Pairs.{zip_at, zip_length, zip_right}

-- a first route can send as much
first_is_ready : (k many : ℕ) (b : NoteBox) (r : Route) → IsFirstRoute k many b r → IsReadyRoute k many r
first_is_ready k many b r first = (
  ap (λ (v : SenderView Note). v.box) first.pass ∙ sym first.to,
  ap (λ (v : SenderView Note). v.number) first.pass,
  (let e = ap (λ (v : SenderView Note). v.budget) first.pass in omega arith),
)

-- nothing was sent on a first route
first_sent_none : (k many : ℕ) (b : NoteBox) (r : Route) → IsFirstRoute k many b r → r.pass.sent ≡ []
first_sent_none k many b r first = ap (λ (v : SenderView Note). v.sent) first.pass

-- likewise on one to a client
first_is_fresh : (k many : ℕ) (b : ReplyBox) (r : ReplyRoute) → IsFirstReplyRoute k many b r → IsFreshReplyRoute k many r
first_is_fresh k many b r first = record {
  own = ap (λ (v : SenderView Reply). v.box) first.pass ∙ sym first.to;
  number = ap (λ (v : SenderView Reply). v.number) first.pass;
  none = ap (λ (v : SenderView Reply). v.sent) first.pass;
  budget = let e = ap (λ (v : SenderView Reply). v.budget) first.pass in omega arith;
}

-- what was made for a client is all that it needs
pub ready_client : (s : Settings) (clock : ClockView) (k seen : ℕ) (inbox : ReplyBox) (boxes : List NoteBox) (c : ClientParts) → length c.calls ≡ s.calls
    → IsFresh clock (2 * s.calls) seen c.seat → arc_value c.inbox ≡ arc_value inbox.post → c.taker ≡ first_taker (arc_value inbox.post) → length boxes ≡ s.replicas
    → AllZip (IsFirstRoute k (2 * s.calls + 1)) boxes c.routes.items → IsReadyClient s clock k inbox boxes c
ready_client s clock k seen inbox boxes c calls seat post taker many routes =
    let m : ℕ = 2 * s.calls + 1 in
    record {
      calls = calls;
      seat_of = ap (λ (v : SeatView). v.clock) seat;
      none_drawn = ap (λ (v : SeatView). v.drawn) seat;
      left = ap (λ (v : SeatView). v.left) seat;
      inbox_is = post;
      taker = ap (λ (v : TakerView Reply). v.box) taker;
      none_taken = ap (λ (v : TakerView Reply). v.taken) taker;
      as_many = let ok = c.routes.ok.0 in let long = zip_length (IsFirstRoute k m) boxes c.routes.items routes in omega arith;
      routes = λ r d less. zip_right (IsFirstRoute k m) (IsReadyRoute k m) (first_is_ready k m) boxes c.routes.items r d routes (omega (arith, less, many));
      none_sent = λ r d less. zip_right (IsFirstRoute k m) (λ (v : Route). v.pass.sent ≡ []) (first_sent_none k m) boxes c.routes.items r d routes (omega (arith, less, many));
      to = λ r d b less. (zip_at (IsFirstRoute k m) boxes c.routes.items r b d routes (omega (arith, less, many))).to;
    }

-- what was made for a replica is all that it needs
pub ready_replica : (s : Settings) (clock : ClockView) (k seen : ℕ) (box : NoteBox) (inboxes : List ReplyBox) (j : JobView) → j.settings ≡ s → j.clock ≡ clock
    → j.replica ≡ record { number = k; keys = s.keys; places = places s; journal = [] } → IsFresh clock (places s) seen j.seat → j.inbox ≡ arc_value box.post
    → j.taker ≡ first_taker (arc_value box.post) → length inboxes ≡ s.clients → AllZip (IsFirstReplyRoute k s.calls) inboxes j.routes → IsReadyReplica s clock k box inboxes j
ready_replica s clock k seen box inboxes j settings clock_is replica seat post taker many routes = record {
  settings_are = settings;
  clock_is = clock_is;
  replica = replica;
  seat_of = ap (λ (v : SeatView). v.clock) seat;
  none_drawn = ap (λ (v : SeatView). v.drawn) seat;
  left = ap (λ (v : SeatView). v.left) seat;
  inbox = post;
  taker = ap (λ (v : TakerView Note). v.box) taker;
  none_taken = ap (λ (v : TakerView Note). v.taken) taker;
  as_many = zip_length (IsFirstReplyRoute k s.calls) inboxes j.routes routes ∙ many;
  routes = λ c d less.
      zip_right (IsFirstReplyRoute k s.calls) (IsFreshReplyRoute k s.calls) (first_is_fresh k s.calls) inboxes j.routes c d routes (omega (arith, less, many));
  to = λ c d b less. (zip_at (IsFirstReplyRoute k s.calls) inboxes j.routes c b d routes (omega (arith, less, many))).to;
}
