-- What a round leaves, as a call: the client is ready for the next one.
use Rattle.std.proofs.Common.{◌≡◌, ℕ, suc, ◌+◌, ◌-◌, ◌*◌, ◌<◌, List, ◌∷◌, length, drop, drop-cons, add-one, slice_index_or, All, refl, ap, sym, ◌∙◌, subst, arith}
use Rattle.std.proofs.lemmas.List.{length-map}
use Rattle.std.specs.Arc.{arc_value}
use Rattle.stale_model.specs.declared.Kind.TheVariants.{Read, Write}
use Rattle.stale_model.specs.declared.store.PlanCall.{PlanCall}
use Rattle.stale_model.specs.declared.store.Entry.{Entry}
use Rattle.stale_model.specs.Calls.{taken_by, freshest}
use Rattle.quorum_client.specs.declared.letters.Route.{Route}
use Rattle.quorum_client.specs.declared.client.Parts.{Parts}
use Rattle.quorum_client.specs.Routes.{IsReadyRoute, IsRepairedOn, with_sent}
use Rattle.quorum_client.specs.Clients.{IsCalled}
use Rattle.quorum_client.specs.Parts.{view_of, IsReady, IsRound}
use Rattle.quorum_client.proofs.Sent.{sent_after_write, sent_after_read, all_fewer, all_sent, all_repaired}

-- the planned calls before a call
next_is : (plan : List PlanCall) (made : ℕ) (call : PlanCall) → made < length plan → slice_index_or plan made call ≡ call
    → drop made plan ≡ call ∷ drop (made + 1) plan
next_is plan made call less is = drop-cons plan made call less ∙ (ap (λ (x : PlanCall). x ∷ drop (suc made) plan) is ∙ rw add-one refl)

-- a client whose routes alone changed after a round
abbrev HasRoutes : Parts → Parts → Type 0
HasRoutes q s = s ≡ record q { routes = s.routes }

-- all that a client has after a call
whole_is : (p q s : Parts) (call : PlanCall) (quorum : ℕ) (e : Entry) → IsRound p q call quorum e → HasRoutes q s
    → s ≡ record p { made = p.made + 1; routes = s.routes; taker = q.taker; seat = q.seat }
whole_is p q s call quorum e round is = is ∙ ap (λ (x : Parts). record x { routes = s.routes }) round.rest

-- a write
pub called_after_write : (p q : Parts) (call : PlanCall) (e : Entry) → IsRound p q call p.write_quorum e → call.kind ≡ Write → p.made < length p.plan
    → slice_index_or p.plan p.made call ≡ call → IsCalled (view_of p) (view_of q) e
called_after_write p q call e round write less is =
    let kind : e.kind ≡ Write = round.kind ∙ write in
    let left : drop p.made p.plan ≡ call ∷ drop q.made q.plan =
    next_is p.plan p.made call less is ∙ ap (λ (x : Parts). call ∷ drop x.made x.plan) (sym round.rest)
    in
    record {
      call = call;
      left = left;
      client = round.client;
      planned = record { seq_is = round.seq; kind = round.kind; key = round.key; value = λ _. round.value };
      freshest = λ read. let not_both : Read ≡ Write = sym read ∙ kind in cc;
      gathered = round.gathered;
      count = round.count ∙ rw kind refl;
      many = round.many;
      others = round.others;
      served = round.served;
      after_seen = round.after_seen;
      ordered = round.ordered;
      sent = sent_after_write e p.routes.items q.routes.items kind round.sent;
      seat = round.seat;
      own = round.own;
      rest = ap view_of round.rest ∙ cc;
    }

-- a read
pub called_after_read : (p q s : Parts) (call : PlanCall) (e : Entry) (value : ℕ) → IsRound p q call p.read_quorum e → call.kind ≡ Read
    → p.made < length p.plan → slice_index_or p.plan p.made call ≡ call → HasRoutes q s → value ≡ (freshest (taken_by e)).value → IsRepairedOn (record e { value = value }) q.routes.items s.routes.items
    → IsCalled (view_of p) (view_of s) (record e { value = value })
called_after_read p q s call e value round read less is after answer repairs =
    let kind : e.kind ≡ Read = round.kind ∙ read in
    let whole = whole_is p q s call p.read_quorum e round after in
    let taker : s.taker ≡ q.taker = ap (λ (x : Parts). x.taker) after in
    let left : drop p.made p.plan ≡ call ∷ drop s.made s.plan =
    next_is p.plan p.made call less is ∙ ap (λ (x : Parts). call ∷ drop x.made x.plan) (sym whole)
    in
    record {
      call = call;
      left = left;
      client = round.client;
      planned = record { seq_is = round.seq; kind = round.kind; key = round.key; value = λ write. let not_both : Read ≡ Write = sym read ∙ write in cc };
      freshest = λ _. answer;
      gathered = rw taker round.gathered;
      count = round.count ∙ rw kind refl;
      many = round.many;
      others = round.others;
      served = round.served;
      after_seen = round.after_seen;
      ordered = round.ordered;
      sent = sent_after_read e value p.routes.items q.routes.items s.routes.items kind round.sent repairs;
      seat = ap (λ (x : Parts). x.seat) after ∙ round.seat;
      own = ap (λ (x : Parts). x.taker.box) after ∙ round.own;
      rest = ap view_of whole ∙ cc;
    }

-- the routes after the round of a call that was left
pub routes_asked : (p q : Parts) (call : PlanCall) (quorum : ℕ) (e : Entry) → IsReady p → p.made < length p.plan → IsRound p q call quorum e
    → All (λ (r : Route). IsReadyRoute p.number (2 * (length p.plan - (p.made + 1)) + 2) r) q.routes.items
routes_asked p q call quorum e ready less round =
    let many = 2 * (length p.plan - (p.made + 1)) + 2 in
    subst (λ (rs : List Route). All (λ (r : Route). IsReadyRoute p.number many r) rs) (sym round.sent)
    (all_sent p.number (2 * (length p.plan - (p.made + 1)) + 2) _ p.routes.items (all_fewer p.number _ _ p.routes.items (omega arith) ready.routes))

-- the client after a call
ready_after : (p q s : Parts) (call : PlanCall) (quorum : ℕ) (e : Entry) → IsReady p → p.made < length p.plan → IsRound p q call quorum e
    → HasRoutes q s → length s.routes.items ≡ length q.routes.items
    → All (λ (r : Route). IsReadyRoute p.number (2 * (length p.plan - (p.made + 1)) + 1) r) s.routes.items → IsReady s
ready_after p q s call quorum e ready less round after many routes =
    let whole = whole_is p q s call quorum e round after in
    let as_many : length q.routes.items ≡ length p.routes.items = ap (λ (rs : List Route). length rs) round.sent ∙ length-map p.routes.items (with_sent _) in
    let number : s.number ≡ p.number = ap (λ (x : Parts). x.number) whole in
    let calls : s.calls ≡ p.calls = ap (λ (x : Parts). x.calls) whole in
    let plan : s.plan ≡ p.plan = ap (λ (x : Parts). x.plan) whole in
    let made : s.made ≡ p.made + 1 = ap (λ (x : Parts). x.made) whole in
    let reads : s.read_quorum ≡ p.read_quorum = ap (λ (x : Parts). x.read_quorum) whole in
    let writes : s.write_quorum ≡ p.write_quorum = ap (λ (x : Parts). x.write_quorum) whole in
    let inbox : s.inbox ≡ p.inbox = ap (λ (x : Parts). x.inbox) whole in
    let left : s.seat.left ≡ p.seat.left - 2 = ap (λ (x : Parts). x.seat.left) after ∙ ap (λ x. x.left) round.seat in
    record {
      few = omega (arith, many, as_many, ready.few);
      reads = rw reads ready.reads;
      writes = rw writes ready.writes;
      made = rw (plan, made) (omega (arith, less));
      last = rw (number, calls, plan) ready.last;
      routes = rw (number, plan, made) routes;
      own = ap (λ (x : Parts). x.taker.box) after ∙ (round.own ∙ (ready.own ∙ ap (λ x. arc_value x) (sym inbox)));
      left = rw (plan, made, left) (omega (arith, ready.left, less));
    }

-- the client after a write
pub ready_after_write : (p q : Parts) (call : PlanCall) (e : Entry) → IsReady p → p.made < length p.plan → IsRound p q call p.write_quorum e → IsReady q
ready_after_write p q call e ready less round =
    ready_after p q q call p.write_quorum e ready less round refl refl
    (all_fewer p.number _ (2 * (length p.plan - (p.made + 1)) + 2) q.routes.items (omega arith) (routes_asked p q call p.write_quorum e ready less round))

-- the client after a read
pub ready_after_read : (p q s : Parts) (call : PlanCall) (e f : Entry) → IsReady p → p.made < length p.plan → IsRound p q call p.read_quorum e
    → HasRoutes q s → IsRepairedOn f q.routes.items s.routes.items → IsReady s
ready_after_read p q s call e f ready less round after repairs =
    ready_after p q s call p.read_quorum e ready less round after repairs.as_many
    (all_repaired p.number (2 * (length p.plan - (p.made + 1)) + 1) f q.routes.items s.routes.items repairs
    (all_fewer p.number _ (2 * (length p.plan - (p.made + 1)) + 2) q.routes.items (omega arith) (routes_asked p q call p.read_quorum e ready less round)))
