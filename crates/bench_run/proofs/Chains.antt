-- What calls of a client, one after the other, leave.
use Rattle.std.proofs.Common.{◌≡◌, ℕ, zero, suc, ◌+◌, ◌-◌, ◌*◌, ◌<◌, Bool, true, false, cond, List, [], ◌∷◌, ◌++◌, length, map, slice_index_or, slice_get, Some, All, append_assoc, length-append, add-one, refl, sym, ◌∙◌, ap, subst, arith}
use Rattle.std.specs.Prelude.{Contains, count_by}
use Rattle.std.specs.List.{filter, flat_map}
use Rattle.std.proofs.lemmas.List.Sums.{length-filter}
use Rattle.std.proofs.lemmas.List.{append-nil, map-append}
use Rattle.std.proofs.lemmas.List.Elements.{All-contains, Contains-append_right}
use Rattle.std.proofs.lemmas.Option.{same_Some, none-some, slice_get-get_or}
use mathlib.Core.List.{IsPrefix}
use Rattle.ticket_clock.specs.Seats.{SeatView}
use Rattle.stale_model.specs.declared.Kind.{Kind}
use Rattle.stale_model.specs.declared.Kind.TheVariants.{Read, Write}
use Rattle.stale_model.specs.declared.store.Settings.{Settings}
use Rattle.stale_model.specs.declared.store.PlanCall.{PlanCall}
use Rattle.stale_model.specs.declared.store.Plan.{Plan}
use Rattle.stale_model.specs.declared.store.Reply.{Reply}
use Rattle.stale_model.specs.declared.store.Took.{Took}
use Rattle.stale_model.specs.declared.store.Entry.{Entry}
use Rattle.stale_model.specs.Orders.{StandsAt, IsWithoutRepeats}
use Rattle.stale_model.specs.Settings.{quorum, calls_of}
use Rattle.stale_model.specs.Calls.{taken_by, sent_to}
use Rattle.stale_model.specs.RecordedRuns.{IsAsPlanned, ReadsFreshest}
use Rattle.stale_model.proofs.Members.{begun_with}
use Rattle.run_laws.specs.Parts.{IsFrom, AreTakenFrom, IsClientShare}
use Rattle.quorum_client.specs.declared.letters.Note.{Note}
use Rattle.quorum_client.specs.declared.letters.Note.TheVariants.{Ask}
use Rattle.quorum_client.specs.declared.letters.Route.{Route}
use Rattle.quorum_client.specs.Routes.{with_sent}
use Rattle.quorum_client.specs.Clients.{ClientView, IsCalled, quorum_of}
use Rattle.bench_run.specs.Clients.{Ran, IsFirst, IsAfterCalls, tickets_of_calls, notes_to}
use Rattle.bench_run.proofs.Firsts.{replicas_of, firsts_are_letters}

-- one more call
pub ran_push : (c d d' : ClientView) (es : List Entry) (e : Entry) → Ran c es d → IsCalled d d' e → Ran c (es ++ e ∷ []) d'
ran_push c d d' [] e ran called = (d', subst (λ (x : ClientView). IsCalled x d' e) ran called, refl)
ran_push c d d' (x ∷ es) e ran called = (ran.0, ran.1, ran_push ran.0 d d' es e ran.2 called)

-- what stays of a client through its calls
pub record IsSameClient (c d : ClientView) : Type 0 where
  pub number : d.number ≡ c.number
  pub calls : d.calls ≡ c.calls
  pub reads : d.read_quorum ≡ c.read_quorum
  pub writes : d.write_quorum ≡ c.write_quorum
  pub inbox : d.inbox ≡ c.inbox
  pub box : d.taker.box ≡ c.taker.box
  pub clock : d.seat.clock ≡ c.seat.clock
  pub as_many : length d.routes ≡ length c.routes

same_itself : (c d : ClientView) → d ≡ c → IsSameClient c d
same_itself c d is = record {
  number = ap (λ (x : ClientView). x.number) is;
  calls = ap (λ (x : ClientView). x.calls) is;
  reads = ap (λ (x : ClientView). x.read_quorum) is;
  writes = ap (λ (x : ClientView). x.write_quorum) is;
  inbox = ap (λ (x : ClientView). x.inbox) is;
  box = ap (λ (x : ClientView). x.taker.box) is;
  clock = ap (λ (x : ClientView). x.seat.clock) is;
  as_many = ap (λ (x : ClientView). length x.routes) is;
}

called_same : (c d : ClientView) (e : Entry) → IsCalled c d e → IsSameClient c d
called_same c d e called = record {
  number = ap (λ (x : ClientView). x.number) called.rest;
  calls = ap (λ (x : ClientView). x.calls) called.rest;
  reads = ap (λ (x : ClientView). x.read_quorum) called.rest;
  writes = ap (λ (x : ClientView). x.write_quorum) called.rest;
  inbox = ap (λ (x : ClientView). x.inbox) called.rest;
  box = called.own;
  clock = ap (λ (x : SeatView). x.clock) called.seat;
  as_many = called.sent.as_many;
}

same_then : (b c d : ClientView) → IsSameClient b c → IsSameClient c d → IsSameClient b d
same_then b c d first second = record {
  number = second.number ∙ first.number;
  calls = second.calls ∙ first.calls;
  reads = second.reads ∙ first.reads;
  writes = second.writes ∙ first.writes;
  inbox = second.inbox ∙ first.inbox;
  box = second.box ∙ first.box;
  clock = second.clock ∙ first.clock;
  as_many = second.as_many ∙ first.as_many;
}

-- a client stays the same through its calls
pub ran_same : (c d : ClientView) (es : List Entry) → Ran c es d → IsSameClient c d
ran_same c d [] ran = same_itself c d ran
ran_same c d (e ∷ es) ran = same_then c ran.0 d (called_same c ran.0 e ran.1) (ran_same ran.0 d es ran.2)

called_made : (c d : ClientView) (e : Entry) → IsCalled c d e → d.made ≡ c.made + 1
called_made c d e called = ap (λ (x : ClientView). x.made) called.rest

-- each call counts
pub ran_made : (c d : ClientView) (es : List Entry) → Ran c es d → d.made ≡ c.made + length es
ran_made c d [] ran = ap (λ (x : ClientView). x.made) ran ∙ (let none : c.made ≡ c.made + 0 = omega arith in none)
ran_made c d (e ∷ es) ran =
    let first = called_made c ran.0 e ran.1 in
    let rest = ran_made ran.0 d es ran.2 in
    omega arith

-- the calls that a client made, of those that it had left
pub record AreMade (c d : ClientView) (es : List Entry) : Type 0 where
  pub calls : List PlanCall
  pub left : c.left ≡ calls ++ d.left
  pub as_many : length calls ≡ length es
  pub keys : map (λ (e : Entry). e.key) es ≡ map (λ (call : PlanCall). call.key) calls

-- each call was the next of those that were planned
pub left_falls : (c d : ClientView) (es : List Entry) → Ran c es d → AreMade c d es
left_falls c d [] ran = record { calls = []; left = ap (λ (x : ClientView). x.left) (sym ran); as_many = refl; keys = refl }
left_falls c d (e ∷ es) ran =
    let rest = left_falls ran.0 d es ran.2 in
    let call = ran.1.call in
    let key = ran.1.planned.key in
    let others = rest.keys in
    record {
      calls = call ∷ rest.calls;
      left = ran.1.left ∙ ap (λ (calls : List PlanCall). call ∷ calls) rest.left;
      as_many = ap suc rest.as_many;
      keys = rw (key, others) refl;
    }

-- a client with no calls left has made as many as it had
pub all_made : (c d : ClientView) (es : List Entry) → Ran c es d → d.left ≡ [] → length es ≡ length c.left
all_made c d es ran done =
    let made = left_falls c d es ran in
    sym made.as_many ∙ ap (λ (calls : List PlanCall). length calls) (sym (made.left ∙ (ap (λ (calls : List PlanCall). made.calls ++ calls) done ∙ append-nil made.calls)))

length_kept : {X : Type 0} (b : Bool) (x : X) (xs : List X) → length (cond b (x ∷ xs) xs) ≡ cond b 1 0 + length xs
length_kept true x xs = omega arith
length_kept false x xs = omega arith

module _ (passes : ℕ → Bool) where
  kept_falls : (c d : ClientView) (es : List Entry) → Ran c es d
      → length (filter (λ (call : PlanCall). passes call.key) c.left) ≡ length (filter (λ (e : Entry). passes e.key) es) + length (filter (λ (call : PlanCall). passes call.key) d.left)
  kept_falls c d [] ran =
      let same = ap (λ (x : ClientView). length (filter (λ (call : PlanCall). passes call.key) x.left)) ran in
      omega arith
  kept_falls c d (e ∷ es) ran =
      let m = ran.0 in
      let call = ran.1.call in
      let rest = kept_falls m d es ran.2 in
      let calls = length_kept (passes call.key) call (filter (λ (x : PlanCall). passes x.key) m.left) in
      let entries = length_kept (passes e.key) e (filter (λ (x : Entry). passes x.key) es) in
      let left = ap (λ (l : List PlanCall). length (filter (λ (x : PlanCall). passes x.key) l)) ran.1.left in
      let one : Bool → ℕ = λ b. cond b 1 0 in
      let key : one (passes e.key) ≡ one (passes call.key) = ap (λ (k : ℕ). one (passes k)) ran.1.planned.key in
      omega arith

  -- of the calls on some keys, as many were made as there are entries on these keys
  pub count_falls : (c d : ClientView) (es : List Entry) → Ran c es d
      → count_by (λ (call : PlanCall). passes call.key) c.left ≡ length (filter (λ (e : Entry). passes e.key) es) + count_by (λ (call : PlanCall). passes call.key) d.left
  count_falls c d es ran =
      let falls = kept_falls c d es ran in
      let before = length-filter (λ (call : PlanCall). passes call.key) c.left in
      let after = length-filter (λ (call : PlanCall). passes call.key) d.left in
      omega arith

begun_then : (xs ys zs : List Reply) → IsPrefix xs ys → IsPrefix ys zs → IsPrefix xs zs
begun_then xs ys zs first second =
    (first.0 ++ second.0, sym (append_assoc xs first.0 second.0) ∙ (ap (λ (l : List Reply). l ++ second.0) first.1 ∙ second.1))

-- a client keeps what it took
pub taken_grows : (c d : ClientView) (es : List Entry) → Ran c es d → IsPrefix c.taker.taken d.taker.taken
taken_grows c d [] ran = ([], append-nil c.taker.taken ∙ ap (λ (x : ClientView). x.taker.taken) (sym ran))
taken_grows c d (e ∷ es) ran =
    begun_then c.taker.taken ran.0.taker.taken d.taker.taken (ran.1.gathered.gained, sym ran.1.gathered.grown) (taken_grows ran.0 d es ran.2)

-- the call at place k, counted from 0: the client before it and after it
pub record IsCallAt (c d : ClientView) (k : ℕ) (e : Entry) : Type 0 where
  pub before : ClientView
  pub after : ClientView
  pub called : IsCalled before after e
  pub same : IsSameClient c before
  pub made : before.made ≡ c.made + k
  pub planned : slice_get c.left k ≡ Some called.call
  pub kept : IsPrefix after.taker.taken d.taker.taken

-- each entry is of a call at its place
pub call_at : (c d : ClientView) (es : List Entry) (k : ℕ) (e : Entry) → Ran c es d → slice_get es k ≡ Some e → IsCallAt c d k e
call_at c d [] k e ran at = absurd (none-some e at)
call_at c d (x ∷ es) zero e ran at =
    let first : IsCallAt c d zero x = record {
      before = c;
      after = ran.0;
      called = ran.1;
      same = same_itself c c refl;
      made = omega arith;
      planned = ap (λ (calls : List PlanCall). slice_get calls zero) ran.1.left;
      kept = taken_grows ran.0 d es ran.2;
    } in
    subst (λ (y : Entry). IsCallAt c d zero y) (same_Some x e at) first
call_at c d (x ∷ es) (suc k) e ran at =
    let later = call_at ran.0 d es k e ran.2 at in
    let counted = called_made c ran.0 x ran.1 in
    let made = later.made in
    record {
      before = later.before;
      after = later.after;
      called = later.called;
      same = same_then c ran.0 later.before (called_same c ran.0 x ran.1) later.same;
      made = omega arith;
      planned = ap (λ (calls : List PlanCall). slice_get calls (suc k)) ran.1.left ∙ later.planned;
      kept = later.kept;
    }

one_then_next : (c d : ClientView) (es : List Entry) (k : ℕ) (a b : Entry) → Ran c es d → slice_get es k ≡ Some a → slice_get es (suc k) ≡ Some b → a.finish < b.start
one_then_next c d [] k a b ran p q = absurd (none-some a p)
one_then_next c d (x ∷ []) k a b ran p q = absurd (none-some b q)
one_then_next c d (x ∷ y ∷ es) zero a b ran p q =
    let finish : x.finish ≡ a.finish = ap (λ (z : Entry). z.finish) (same_Some x a p) in
    let start : y.start ≡ b.start = ap (λ (z : Entry). z.start) (same_Some y b q) in
    let seen : ran.0.seat.seen ≡ x.finish + 1 = ap (λ (s : SeatView). s.seen) ran.1.seat in
    let after = ran.2.1.after_seen in
    omega arith
one_then_next c d (x ∷ y ∷ es) (suc k) a b ran p q = one_then_next ran.0 d (y ∷ es) k a b ran.2 p q

-- a client makes one call after the other
pub one_by_one : (c d : ClientView) (es : List Entry) (k : ℕ) (a b : Entry) → Ran c es d → slice_get es k ≡ Some a → slice_get es (k + 1) ≡ Some b → a.finish < b.start
one_by_one c d es k a b ran p q = one_then_next c d es k a b ran p (rw add-one at q)

-- one lot of notes and then another
pub sent_twice : (xs ys : List Note) (r : Route) → with_sent ys (with_sent xs r) ≡ with_sent (xs ++ ys) r
sent_twice xs ys r =
    let notes : (r.pass.sent ++ xs) ++ ys ≡ r.pass.sent ++ (xs ++ ys) = append_assoc r.pass.sent xs ys in
    let many = length-append xs ys in
    let budget : (r.pass.budget - length xs) - length ys ≡ r.pass.budget - length (xs ++ ys) = omega arith in
    rw (notes, budget) refl

none_sent : (r : Route) → r ≡ with_sent [] r
none_sent r =
    let budget : r.pass.budget - 0 ≡ r.pass.budget = omega arith in
    rw (append-nil r.pass.sent, budget) refl

-- a seat that drew these tickets, so many, and has seen this moment
abbrev drawn_on : SeatView → List ℕ → ℕ → ℕ → SeatView
drawn_on s xs many moment = record s { drawn = s.drawn ++ xs; left = s.left - many; seen = moment }

none_drawn : (s : SeatView) → s ≡ drawn_on s [] 0 s.seen
none_drawn s =
    let left : s.left - 0 ≡ s.left = omega arith in
    rw (append-nil s.drawn, left) refl

drawn_twice : (s : SeatView) (xs ys : List ℕ) (m n both seen moment : ℕ) → m + n ≡ both → drawn_on (drawn_on s xs m seen) ys n moment ≡ drawn_on s (xs ++ ys) both moment
drawn_twice s xs ys m n both seen moment is =
    let tickets : (s.drawn ++ xs) ++ ys ≡ s.drawn ++ (xs ++ ys) = append_assoc s.drawn xs ys in
    let left : (s.left - m) - n ≡ s.left - both = omega arith in
    rw (tickets, left) refl

seat_after : (c d : ClientView) (es : List Entry) → Ran c es d → d.seat ≡ drawn_on c.seat (tickets_of_calls es) (2 * length es) d.seat.seen
seat_after c d [] ran = subst (λ (x : ClientView). x.seat ≡ drawn_on c.seat [] 0 x.seat.seen) (sym ran) (none_drawn c.seat)
seat_after c d (e ∷ es) ran =
    let rest = seat_after ran.0 d es ran.2 in
    let many : 2 + 2 * length es ≡ 2 * suc (length es) = omega arith in
    rest
    ∙ (ap (λ (s : SeatView). drawn_on s (tickets_of_calls es) (2 * length es) d.seat.seen) ran.1.seat
    ∙ drawn_twice c.seat (e.start ∷ e.finish ∷ []) (tickets_of_calls es) 2 (2 * length es) (2 * suc (length es)) (e.finish + 1) d.seat.seen many)

route_after : (c d : ClientView) (es : List Entry) (replica : ℕ) (r : Route) → Ran c es d → replica < length c.routes
    → slice_index_or d.routes replica r ≡ with_sent (notes_to replica es) (slice_index_or c.routes replica r)
route_after c d [] replica r ran inside =
    ap (λ (x : ClientView). slice_index_or x.routes replica r) ran ∙ none_sent (slice_index_or c.routes replica r)
route_after c d (e ∷ es) replica r ran inside =
    let here = slice_index_or c.routes replica r in
    let many = ran.1.sent.as_many in
    route_after ran.0 d es replica r ran.2 (omega arith)
    ∙ (ap (λ (x : Route). with_sent (notes_to replica es) x) (ran.1.sent.each replica r inside)
    ∙ (sent_twice (map Ask (sent_to replica e)) (notes_to replica es) here
    ∙ ap (λ (notes : List Note). with_sent notes here) (sym (map-append Ask (sent_to replica e) (flat_map (sent_to replica) es)))))

-- what the calls leave of the client
pub after_calls : (c d : ClientView) (es : List Entry) → Ran c es d → IsAfterCalls c es d
after_calls c d es ran =
    let same = ran_same c d es ran in
    record {
      number = same.number;
      inbox = same.inbox;
      box = same.box;
      seat = seat_after c d es ran;
      as_many = same.as_many;
      routes = λ replica r inside. route_after c d es replica r ran inside;
    }

-- the tickets of a client that had drawn none
pub drawn_by_calls : (c d : ClientView) (es : List Entry) → Ran c es d → c.seat.drawn ≡ [] → d.seat.drawn ≡ tickets_of_calls es
drawn_by_calls c d es ran none = ap (λ (s : SeatView). s.drawn) (seat_after c d es ran) ∙ ap (λ (xs : List ℕ). xs ++ tickets_of_calls es) none

-- what the calls sent to a replica that was sent nothing before
pub sent_by_calls : (c d : ClientView) (es : List Entry) (replica : ℕ) (r : Route) → Ran c es d → replica < length c.routes
    → (slice_index_or c.routes replica r).pass.sent ≡ [] → (slice_index_or d.routes replica r).pass.sent ≡ notes_to replica es
sent_by_calls c d es replica r ran inside none =
    ap (λ (x : Route). x.pass.sent) (route_after c d es replica r ran inside) ∙ ap (λ (notes : List Note). notes ++ notes_to replica es) none

-- what holds at each place holds of all
all_from_places : {X : Type 0} (P : X → Type 0) (xs : List X) → ((k : ℕ) (x : X) → StandsAt xs k x → P x) → All P xs
all_from_places P xs each k d inside = each k (slice_index_or xs k d) (slice_get-get_or xs k d inside)

quorum_by_kind : (c : ClientView) (settings : Settings) (kind : Kind) → c.read_quorum ≡ settings.read_quorum → c.write_quorum ≡ settings.write_quorum
    → quorum_of c kind ≡ quorum settings kind
quorum_by_kind c settings Read reads writes = reads
quorum_by_kind c settings Write reads writes = writes

module _ (settings : Settings) (plan : Plan) (client : ℕ) (c : ClientView) (es : List Entry) (d : ClientView) (first : IsFirst settings plan client c) (ran : Ran c es d) where
  -- each entry stands in the order of the plan
  planned_at : (k : ℕ) (e : Entry) (call : PlanCall) → slice_get es k ≡ Some e → slice_get (calls_of plan client) k ≡ Some call → IsAsPlanned (k + 1) call e
  planned_at k e call at plans =
      let h = call_at c d es k e ran at in
      let none = first.made in
      let made = h.made in
      let number : h.before.made + 1 ≡ k + 1 = omega arith in
      let same : h.called.call ≡ call = same_Some h.called.call call (sym h.planned ∙ (ap (λ (calls : List PlanCall). slice_get calls k) first.left ∙ plans)) in
      subst (λ (x : PlanCall). IsAsPlanned (k + 1) x e) same (subst (λ (n : ℕ). IsAsPlanned n h.called.call e) number h.called.planned)

  number_at : (k : ℕ) (e : Entry) → slice_get es k ≡ Some e → e.seq ≡ k + 1
  number_at k e at =
      let h = call_at c d es k e ran at in
      let none = first.made in
      let made = h.made in
      let number = h.called.planned.seq_is in
      omega arith

  -- each reply of a call is one that the client took
  from_taken : (k : ℕ) (e : Entry) (t : Took) → IsCallAt c d k e → Contains (taken_by e) t → IsFrom settings d.taker.taken e t
  from_taken k e t h there =
      let gathered = h.called.gathered in
      let many = length h.before.routes in
      let are = firsts_are_letters e.seq many gathered.gained in
      let letter = are.each t (subst (λ (ts : List Took). Contains ts t) gathered.firsts there) in
      let came : Contains h.after.taker.taken letter.reply =
      subst (λ (l : List Reply). Contains l letter.reply) (sym gathered.grown)
      (Contains-append_right h.before.taker.taken gathered.gained letter.reply letter.there) in
      let as_many = h.same.as_many in
      let replicas = first.many in
      let known = letter.known in
      record {
        reply = letter.reply;
        there = begun_with h.after.taker.taken d.taker.taken letter.reply h.kept came;
        same = letter.same;
        replica = omega arith;
        seq = letter.number;
        before_finish = All-contains (λ (x : Took). x.serve < e.finish) (taken_by e) t h.called.served there;
      }

  taken_at : (k : ℕ) (e : Entry) → slice_get es k ≡ Some e → AreTakenFrom settings d.taker.taken e
  taken_at k e at =
      let h = call_at c d es k e ran at in
      let gathered = h.called.gathered in
      let are = firsts_are_letters e.seq (length h.before.routes) gathered.gained in
      record {
        count = h.called.count ∙ quorum_by_kind h.before settings e.kind (h.same.reads ∙ first.reads) (h.same.writes ∙ first.writes);
        many = h.called.many;
        each = λ t there. from_taken k e t h there;
        apart = subst (λ (ts : List Took). IsWithoutRepeats (replicas_of ts)) (sym gathered.firsts) are.apart;
        others = h.called.others;
      }

  -- what the client has of the run, once it has made its planned calls
  pub client_share : d.left ≡ [] → IsClientShare settings plan client es d.taker.taken
  client_share done = record {
    calls = record {
      client_is = all_from_places (λ (e : Entry). e.client ≡ client) es (λ k e at. let h = call_at c d es k e ran at in h.called.client ∙ (h.same.number ∙ first.number));
      numbered = number_at;
    };
    as_many = all_made c d es ran done ∙ ap (λ (calls : List PlanCall). length calls) first.left;
    planned = planned_at;
    ordered = all_from_places (λ (e : Entry). e.start < e.finish) es (λ k e at. (call_at c d es k e ran at).called.ordered);
    one_by_one = λ k a b p q. one_by_one c d es k a b ran p q;
    from_taken = all_from_places (λ (e : Entry). AreTakenFrom settings d.taker.taken e) es taken_at;
    freshest = all_from_places (λ (e : Entry). ReadsFreshest e) es (λ k e at. (call_at c d es k e ran at).called.freshest);
  }
