-- What a job has served, one note after the other.
use Rattle.std.proofs.Common.{◌≡◌, ℕ, ◌+◌, ◌-◌, ◌*◌, ◌<◌, ◌≤◌, Bool, true, false, ◌&&◌, ◌||◌, if◌then◌else◌, List, [], ◌∷◌, ◌++◌, length, map, slice_index_or, All, refl, ap, sym, ◌∙◌, subst, arith, append_assoc, length-append, eq-eqb, inl, inr}
use Rattle.std.specs.Prelude.{◌==◌, ◌⊎◌, nat_lt, not, filter, Contains}
use Rattle.std.specs.Arc.{arc_value}
use Rattle.std.specs.List.{list_all}
use Rattle.std.proofs.Math.Nat.{mul-le-mul_right}
use Rattle.std.proofs.lemmas.Bool.{cases_eq, ne_eqb, false≢true}
use Rattle.std.proofs.lemmas.Bool.Decides.{nat_tests}
use Rattle.std.proofs.lemmas.List.{append-nil, map-append, length-map, length-replicate, get_or-replicate, length_push}
use Rattle.std.proofs.lemmas.List.Elements.{filter-append, Contains-append_left, Contains-push}
use Rattle.std.proofs.lemmas.List.Sums.{AllPass-from_list_all}
use Rattle.ticket_clock.specs.Seats.{SeatView}
use Rattle.post_box.specs.Boxes.{TakerView}
use Rattle.replica_node.specs.Replicas.{ReplicaView}
use Rattle.quorum_client.specs.declared.letters.Note.{Note}
use Rattle.quorum_client.specs.declared.letters.Note.TheVariants.{Ask, Done}
use Rattle.stale_model.specs.declared.store.Settings.{Settings}
use Rattle.stale_model.specs.declared.store.Request.{Request}
use Rattle.stale_model.specs.declared.store.Reply.{Reply}
use Rattle.stale_model.specs.declared.store.JournalEntry.{JournalEntry}
use Rattle.stale_model.specs.Settings.{AreSettings}
use Rattle.stale_model.specs.Journals.{is_repair, IsServed, IsJournal}
use Rattle.stale_model.specs.Serving.{answered_to, admits, served_after}
use Rattle.stale_model.specs.RecordedRuns.{served_for, requests_of}
use Rattle.stale_model.proofs.Growing.{empty_journal, journal_grows}
use Rattle.run_laws.specs.Laws.{replies_to}
use Rattle.bench_run.specs.declared.job.ReplyRoute.{ReplyRoute}
use Rattle.bench_run.specs.declared.job.BenchEnd.{BenchEnd}
use Rattle.bench_run.specs.declared.job.Caller.{Caller}
use Rattle.bench_run.specs.declared.job.JobParts.{JobParts}
use Rattle.bench_run.specs.Jobs.{JobView, asked_in, serves_of, with_replies, CanServe, IsServedOut}
use Rattle.bench_run.specs.JobSteps.{view_of, entry_of, served_by, admits_now, IsFreshJob, IsOpenReplyRoute, IsReadyJob, IsServedOne, with_done, IsMarkedDone}

-- the requests of one more note
asked_more : (notes : List Note) (note : Note) → asked_in (notes ++ note ∷ []) ≡ asked_in notes ++ asked_in (note ∷ [])
asked_more [] note = refl
asked_more (Ask q ∷ notes) note = ap (λ (qs : List Request). q ∷ qs) (asked_more notes note)
asked_more (Done client ∷ notes) note = asked_more notes note

-- what is served once one more request has come
served_more : (s : Settings) (places : ℕ) (served qs : List Request) (q : Request)
    → served_after s places served (qs ++ q ∷ []) ≡ served_after s places (served_after s places served qs) (q ∷ [])
served_more s places served [] q = refl
served_more s places served (p ∷ qs) q = served_more s places (if admits s places served p then served ++ p ∷ [] else served) qs q

module _ (s : Settings) (places : ℕ) (notes : List Note) (now : List Request) (is : now ≡ served_after s places [] (asked_in notes)) where
  one_request : (q : Request) → served_after s places [] (asked_in (notes ++ Ask q ∷ [])) ≡ (if admits s places now q then now ++ q ∷ [] else now)
  one_request q =
      ap (λ (qs : List Request). served_after s places [] qs) (asked_more notes (Ask q))
      ∙ (served_more s places [] (asked_in notes) q ∙ ap (λ (l : List Request). served_after s places l (q ∷ [])) (sym is))

  -- a request that it admits
  pub served_admitted : (q : Request) → admits s places now q ≡ true → now ++ q ∷ [] ≡ served_after s places [] (asked_in (notes ++ Ask q ∷ []))
  served_admitted q admitted_now = sym (one_request q ∙ ap (λ (b : Bool). if b then now ++ q ∷ [] else now) admitted_now)

  -- one that it drops
  pub served_dropped : (q : Request) → admits s places now q ≡ false → now ≡ served_after s places [] (asked_in (notes ++ Ask q ∷ []))
  served_dropped q refused = sym (one_request q ∙ ap (λ (b : Bool). if b then now ++ q ∷ [] else now) refused)

  -- that a client is done
  pub served_done : (client : ℕ) → now ≡ served_after s places [] (asked_in (notes ++ Done client ∷ []))
  served_done client =
      is ∙ ap (λ (qs : List Request). served_after s places [] qs) (sym (asked_more notes (Done client) ∙ append-nil (asked_in notes)))

-- what is told by all four tests of a request
each_of_four : (a b c d : Bool) → (a && b && c && d) ≡ true → (a ≡ true) × (b ≡ true) × (c ≡ true) × (d ≡ true)
each_of_four true true true d e = (refl, refl, refl, e)
each_of_four true true false d e = absurd (false≢true e)
each_of_four true false c d e = absurd (false≢true e)
each_of_four false b c d e = absurd (false≢true e)

le_product : (n m most : ℕ) → 1 ≤ n → n * m ≤ most → m ≤ most
le_product n m most some few = let more : 1 * m ≤ n * m = mul-le-mul_right m some in omega arith

-- what a request that is admitted is
pub record IsAdmitted (s : Settings) (places : ℕ) (served : List Request) (q : Request) : Type 0 where
  pub client : q.client < s.clients
  pub key : q.key < s.keys
  pub room : length served < places
  pub calls : is_repair q.ask ≡ false → length (answered_to q.client served) < s.calls

plain_calls : (b : Bool) (n calls : ℕ) → (b || nat_lt n calls) ≡ true → b ≡ false → n < calls
plain_calls true n calls e plain = absurd (false≢true (sym plain))
plain_calls false n calls e plain = grind (arith, nat_tests)

pub is_admitted : (s : Settings) (places : ℕ) (served : List Request) (q : Request) → admits s places served q ≡ true → IsAdmitted s places served q
is_admitted s places served q admitted_now =
    let four = each_of_four (nat_lt q.client s.clients) (nat_lt q.key s.keys) (nat_lt (length served) places) (is_repair q.ask || nat_lt (length (answered_to q.client served)) s.calls) admitted_now in
    let client = four.0 in
    let key = four.1 in
    let room = four.2 in
    record {
      client = grind (arith, nat_tests);
      key = grind (arith, nat_tests);
      room = grind (arith, nat_tests);
      calls = plain_calls (is_repair q.ask) (length (answered_to q.client served)) s.calls four.3;
    }

-- no client makes more calls than all of them together
pub few_calls : (s : Settings) → AreSettings s → s.calls ≤ 100000
few_calls s limits = le_product s.clients s.calls 100000 limits.clients.0 limits.calls.1

-- no reply changes no route
pub with_no_replies : (r : ReplyRoute) → with_replies [] r ≡ r
with_no_replies r =
    let sent : r.pass.sent ++ [] ≡ r.pass.sent = append-nil r.pass.sent in
    let budget : r.pass.budget - 0 ≡ r.pass.budget = omega arith in
    rw (sent, budget) refl

-- some replies, and then others
with_more_replies : (first more : List Reply) (r : ReplyRoute) → with_replies more (with_replies first r) ≡ with_replies (first ++ more) r
with_more_replies first more r =
    let sent : (r.pass.sent ++ first) ++ more ≡ r.pass.sent ++ (first ++ more) = append_assoc r.pass.sent first more in
    let both = length-append first more in
    let budget : (r.pass.budget - length first) - length more ≡ r.pass.budget - length (first ++ more) = omega arith in
    rw (sent, budget) refl

-- the reply to a read or a write goes to its client
pub reply_to_own : (client : ℕ) (e : JournalEntry) → e.request.client ≡ client → is_repair e.request.ask ≡ false → replies_to client (e ∷ []) ≡ e.reply ∷ []
reply_to_own client e own plain = rw (eq-eqb e.request.client client own, plain) refl

-- the other clients get none
pub reply_to_other : (client : ℕ) (e : JournalEntry) → (e.request.client ≡ client → ⊥) → replies_to client (e ∷ []) ≡ []
reply_to_other client e other = rw (ne_eqb e.request.client client other) refl

-- to a repair goes none
pub reply_to_repair : (client : ℕ) (e : JournalEntry) → is_repair e.request.ask ≡ true → replies_to client (e ∷ []) ≡ []
reply_to_repair client e repair = elim (cases_eq e.request.client client) [
  | inl own ↦ rw (eq-eqb e.request.client client own, repair) refl
  | inr other ↦ reply_to_other client e other
]

-- a read or a write counts for its client
pub counted_own : (client : ℕ) (q : Request) → q.client ≡ client → is_repair q.ask ≡ false → length (answered_to client (q ∷ [])) ≡ 1
counted_own client q own plain = rw (eq-eqb q.client client own, plain) refl

-- and for no other
pub counted_other : (client : ℕ) (q : Request) → (q.client ≡ client → ⊥) → length (answered_to client (q ∷ [])) ≡ 0
counted_other client q other = rw (ne_eqb q.client client other) refl

-- a repair counts for nobody
pub counted_repair : (client : ℕ) (q : Request) → is_repair q.ask ≡ true → length (answered_to client (q ∷ [])) ≡ 0
counted_repair client q repair = elim (cases_eq q.client client) [
  | inl own ↦ rw (eq-eqb q.client client own, repair) refl
  | inr other ↦ counted_other client q other
]

-- a client is sent as many replies as are counted for it
replies_counted : (b : Bool) (client : ℕ) (e : JournalEntry) → is_repair e.request.ask ≡ b
    → length (replies_to client (e ∷ [])) ≡ length (answered_to client (e.request ∷ []))
replies_counted true client e is = ap (λ (l : List Reply). length l) (reply_to_repair client e is) ∙ sym (counted_repair client e.request is)
replies_counted false client e is = elim (cases_eq e.request.client client) [
  | inl own ↦ ap (λ (l : List Reply). length l) (reply_to_own client e own is) ∙ sym (counted_own client e.request own is)
  | inr other ↦ ap (λ (l : List Reply). length l) (reply_to_other client e other) ∙ sym (counted_other client e.request other)
]

-- one more entry: its reply comes last
replies_more : (client : ℕ) (js : List JournalEntry) (e : JournalEntry) → replies_to client (js ++ e ∷ []) ≡ replies_to client js ++ replies_to client (e ∷ [])
replies_more client js e =
    let own = λ (j : JournalEntry). j.request.client == client in
    let plain = λ (j : JournalEntry). not (is_repair j.request.ask) in
    let reply = λ (j : JournalEntry). j.reply in
    ap (λ (l : List JournalEntry). map reply (filter plain l)) (filter-append own js (e ∷ []))
    ∙ (ap (λ (l : List JournalEntry). map reply l) (filter-append plain (served_for client js) (served_for client (e ∷ [])))
    ∙ map-append reply (filter plain (served_for client js)) (filter plain (served_for client (e ∷ []))))

-- how many are counted for a client after one more request
counted_more : (client : ℕ) (qs : List Request) (q : Request) → length (answered_to client (qs ++ q ∷ [])) ≡ length (answered_to client qs) + length (answered_to client (q ∷ []))
counted_more client qs q =
    ap (λ (l : List Request). length l) (filter-append (λ (r : Request). (r.client == client) && not (is_repair r.ask)) qs (q ∷ []))
    ∙ length-append (answered_to client qs) (answered_to client (q ∷ []))

-- a route on which replies were sent
open_more : (replica calls answered : ℕ) (replies : List Reply) (r : ReplyRoute) → IsOpenReplyRoute replica calls answered r
    → IsOpenReplyRoute replica calls (answered + length replies) (with_replies replies r)
open_more replica calls answered replies r h = record {
  own = h.own;
  number = h.number;
  budget = let room = h.budget in omega arith;
}

-- after a request that it served it can serve the next one
pub ready_more : (p q : JobParts) (request : Request) → IsReadyJob p → admits_now p request ≡ true → IsServedOne p q request → IsReadyJob q
ready_more p q request ready admitted_now one =
    let entry = entry_of request one.reply in
    let settings : q.settings ≡ p.settings = ap (λ (x : JobParts). x.settings) one.rest in
    let inbox : q.inbox ≡ p.inbox = ap (λ (x : JobParts). x.inbox) one.rest in
    let taker : q.taker ≡ p.taker = ap (λ (x : JobParts). x.taker) one.rest in
    let number : q.replica.number ≡ p.replica.number = ap (λ (x : ReplicaView). x.number) one.replica in
    let keys : q.replica.keys ≡ p.replica.keys = ap (λ (x : ReplicaView). x.keys) one.replica in
    let places : q.replica.places ≡ p.replica.places = ap (λ (x : ReplicaView). x.places) one.replica in
    let journal : q.replica.journal ≡ p.replica.journal ++ entry ∷ [] = ap (λ (x : ReplicaView). x.journal) one.replica in
    let served : served_by q ≡ served_by p ++ request ∷ [] =
    ap (λ (js : List JournalEntry). requests_of js) journal ∙ map-append (λ (j : JournalEntry). j.request) p.replica.journal (entry ∷ [])
    in
    let seat_clock : q.seat.clock ≡ p.seat.clock = ap (λ (x : SeatView). x.clock) one.seat in
    let seat_left : q.seat.left ≡ p.seat.left - 1 = ap (λ (x : SeatView). x.left) one.seat in
    let counted : (client : ℕ) → length (answered_to client (served_by q)) ≡ length (answered_to client (served_by p)) + length (answered_to client (request ∷ [])) =
    λ client. ap (λ (l : List Request). length (answered_to client l)) served ∙ counted_more client (served_by p) request
    in
    record {
      limits = subst (λ (s : Settings). AreSettings s) (sym settings) ready.limits;
      own = seat_clock ∙ (ready.own ∙ ap (λ (x : JobParts). (arc_value x.clock).id) (sym one.rest));
      inbox = ap (λ (x : TakerView Note). x.box) taker ∙ (ready.inbox ∙ ap (λ x. arc_value x) (sym inbox));
      keys = keys ∙ (ready.keys ∙ ap (λ (s : Settings). s.keys) (sym settings));
      left =
          let room = (is_admitted p.settings p.replica.places (served_by p) request admitted_now).room in
          let many = length-map p.replica.journal (λ (j : JournalEntry). j.request) in
          let long = ap (λ (l : List JournalEntry). length l) journal ∙ length_push p.replica.journal entry in
          let left = ready.left in
          omega arith;
      later = one.later;
      as_many = one.routes_many ∙ (ready.as_many ∙ ap (λ (s : Settings). s.clients) (sym settings));
      routes = λ client r less.
          let less_p : client < p.settings.clients = subst (λ (s : Settings). client < s.clients) settings less in
          let inside : client < length p.routes.items = let many = ready.as_many in omega arith in
          let before = ready.routes client r less_p in
          let after = open_more p.replica.number p.settings.calls (length (answered_to client (served_by p))) (replies_to client (entry ∷ [])) (slice_index_or p.routes.items client r) before in
          rw (number, settings, counted client, sym (replies_counted (is_repair request.ask) client entry refl), one.routes client r inside) after;
      callers = one.callers_many ∙ (ready.callers ∙ ap (λ (s : Settings). s.clients) (sym settings));
      answered = λ client c less.
          let less_p : client < p.settings.clients = subst (λ (s : Settings). client < s.clients) settings less in
          let inside : client < length p.callers.items = let many = ready.callers in omega arith in
          ap (λ (x : Caller). x.answered) (one.callers client c inside)
          ∙ (ap (λ n. n + length (answered_to client (request ∷ []))) (ready.answered client c less_p) ∙ sym (counted client));
    }

-- a job that began as j, after the notes that it has taken
pub record IsServing (j : JobView) (p : JobParts) : Type 0 where
  pub ready : IsReadyJob p
  pub settings : p.settings ≡ j.settings
  pub box : p.taker.box ≡ j.taker.box
  pub replica : p.replica ≡ record j.replica { journal = p.replica.journal }
  pub journal : IsJournal j.replica.number p.replica.journal
  pub served : served_by p ≡ served_after j.settings j.replica.places [] (asked_in p.taker.taken)
  pub seat : p.seat ≡ record j.seat { drawn = serves_of p.replica.journal; left = j.seat.left - length p.replica.journal; seen = p.seat.seen }
  pub as_many : length p.routes.items ≡ length j.routes
  pub routes : (client : ℕ) (r : ReplyRoute) → client < length j.routes
      → slice_index_or p.routes.items client r ≡ with_replies (replies_to client p.replica.journal) (slice_index_or j.routes client r)
  pub done : (client : ℕ) (c : Caller) → client < j.settings.clients → (slice_index_or p.callers.items client c).done ≡ true → Contains p.taker.taken (Done client)

-- with another taker of the box, and other marks of who is done, it can serve the next request as before
ready_with : (p q : JobParts) (t : TakerView Note) → IsReadyJob p → t.box ≡ p.taker.box → length q.callers.items ≡ length p.callers.items
    → ((client : ℕ) (c : Caller) → client < p.settings.clients → (slice_index_or q.callers.items client c).answered ≡ (slice_index_or p.callers.items client c).answered)
    → IsReadyJob (record p { taker = t; callers = q.callers })
ready_with p q t ready box many answered = record {
  limits = ready.limits;
  own = ready.own;
  inbox = box ∙ ready.inbox;
  keys = ready.keys;
  left = ready.left;
  later = ready.later;
  as_many = ready.as_many;
  routes = ready.routes;
  callers = many ∙ ready.callers;
  answered = λ client c less. answered client c less ∙ ready.answered client c less;
}

-- and after it the same was served
serving_with : (j : JobView) (p q : JobParts) (t : TakerView Note) → IsServing j p → t.box ≡ p.taker.box
    → served_by p ≡ served_after j.settings j.replica.places [] (asked_in t.taken) → length q.callers.items ≡ length p.callers.items
    → ((client : ℕ) (c : Caller) → client < p.settings.clients → (slice_index_or q.callers.items client c).answered ≡ (slice_index_or p.callers.items client c).answered)
    → ((client : ℕ) (c : Caller) → client < j.settings.clients → (slice_index_or q.callers.items client c).done ≡ true → Contains t.taken (Done client))
    → IsServing j (record p { taker = t; callers = q.callers })
serving_with j p q t h box served many answered done = record {
  ready = ready_with p q t h.ready box many answered;
  settings = h.settings;
  box = box ∙ h.box;
  replica = h.replica;
  journal = h.journal;
  served = served;
  seat = h.seat;
  as_many = h.as_many;
  routes = h.routes;
  done = done;
}

-- the taker has taken one more note
abbrev pub with_note : Note → JobParts → JobParts
with_note note p = record p { taker = record p.taker { taken = p.taker.taken ++ note ∷ [] } }

-- a request that it served
serving_admitted : (j : JobView) (p q : JobParts) (request : Request) → IsServing j p → admits_now p request ≡ true
    → IsServedOne (with_note (Ask request) p) q request → IsServing j q
serving_admitted j p q request h admitted_now one =
    let entry = entry_of request one.reply in
    let m = with_note (Ask request) p in
    let js = p.replica.journal in
    let ready : IsReadyJob m = ready_with p p m.taker h.ready refl refl (λ client c less. refl) in
    let taker : q.taker ≡ m.taker = ap (λ (x : JobParts). x.taker) one.rest in
    let number : p.replica.number ≡ j.replica.number = ap (λ (x : ReplicaView). x.number) h.replica in
    let places : p.replica.places ≡ j.replica.places = ap (λ (x : ReplicaView). x.places) h.replica in
    let journal : q.replica.journal ≡ js ++ entry ∷ [] = ap (λ (x : ReplicaView). x.journal) one.replica in
    let admitted : admits j.settings j.replica.places (served_by p) request ≡ true =
    subst (λ (n : ℕ). admits j.settings n (served_by p) request ≡ true) places (subst (λ (s : Settings). admits s p.replica.places (served_by p) request ≡ true) h.settings admitted_now)
    in
    let serves : serves_of q.replica.journal ≡ serves_of js ++ entry.reply.serve ∷ [] =
    ap (λ (l : List JournalEntry). serves_of l) journal ∙ map-append (λ (e : JournalEntry). e.reply.serve) js (entry ∷ [])
    in
    let long : length q.replica.journal ≡ length js + 1 = ap (λ (l : List JournalEntry). length l) journal ∙ length_push js entry in
    let drawn : p.seat.drawn ≡ serves_of js = ap (λ (x : SeatView). x.drawn) h.seat in
    let clock : p.seat.clock ≡ j.seat.clock = ap (λ (x : SeatView). x.clock) h.seat in
    let left : p.seat.left ≡ j.seat.left - length js = ap (λ (x : SeatView). x.left) h.seat in
    let left_now : p.seat.left - 1 ≡ j.seat.left - length q.replica.journal = omega arith in
    record {
      ready = ready_more m q request ready admitted_now one;
      settings = ap (λ (x : JobParts). x.settings) one.rest ∙ h.settings;
      box = ap (λ (x : TakerView Note). x.box) taker ∙ h.box;
      replica = one.replica ∙ (ap (λ (x : ReplicaView). record x { journal = js ++ entry ∷ [] }) h.replica ∙ ap (λ (l : List JournalEntry). record j.replica { journal = l }) (sym journal));
      journal = subst (λ (l : List JournalEntry). IsJournal j.replica.number l) (sym journal)
          (journal_grows j.replica.number js entry h.journal (subst (λ (n : ℕ). IsServed n js entry) number one.served));
      served =
          ap (λ (l : List JournalEntry). requests_of l) journal
          ∙ (map-append (λ (e : JournalEntry). e.request) js (entry ∷ [])
          ∙ (served_admitted j.settings j.replica.places p.taker.taken (served_by p) h.served request admitted
          ∙ ap (λ (t : TakerView Note). served_after j.settings j.replica.places [] (asked_in t.taken)) (sym taker)));
      seat = one.seat ∙ rw (clock, drawn, left_now, serves) refl;
      as_many = one.routes_many ∙ h.as_many;
      routes = λ client r less.
          let inside : client < length p.routes.items = let many = h.as_many in omega arith in
          one.routes client r inside
          ∙ (ap (λ (x : ReplyRoute). with_replies (replies_to client (entry ∷ [])) x) (h.routes client r less)
          ∙ (with_more_replies (replies_to client js) (replies_to client (entry ∷ [])) (slice_index_or j.routes client r)
          ∙ ap (λ (l : List Reply). with_replies l (slice_index_or j.routes client r)) (sym (replies_more client js entry) ∙ ap (λ (l : List JournalEntry). replies_to client l) (sym journal))));
      done = λ client c less yet.
          let less_p : client < length p.callers.items =
          let many = h.ready.callers in let same = ap (λ (s : Settings). s.clients) h.settings in omega arith
          in
          let done : (slice_index_or p.callers.items client c).done ≡ true = sym (ap (λ (x : Caller). x.done) (one.callers client c less_p)) ∙ yet in
          let before = h.done client c less done in
          subst (λ (t : TakerView Note). Contains t.taken (Done client)) (sym taker) (Contains-append_left p.taker.taken (Ask request ∷ []) (Done client) before);
    }

-- a note that changes nothing of what it has served
serving_same : (j : JobView) (p : JobParts) (note : Note) → IsServing j p
    → served_by p ≡ served_after j.settings j.replica.places [] (asked_in (p.taker.taken ++ note ∷ [])) → IsServing j (with_note note p)
serving_same j p note h served =
    serving_with j p p (with_note note p).taker h refl served refl (λ client c less. refl)
    (λ client c less yet. Contains-append_left p.taker.taken (note ∷ []) (Done client) (h.done client c less yet))

serving_by_choice : (b : Bool) (j : JobView) (p q : JobParts) (request : Request) → IsServing j p → admits_now p request ≡ b
    → (admits_now p request ≡ true → IsServedOne (with_note (Ask request) p) q request)
    → (admits_now p request ≡ false → q ≡ with_note (Ask request) p) → IsServing j q
serving_by_choice true j p q request h is served dropped = serving_admitted j p q request h is (served is)
serving_by_choice false j p q request h is served dropped =
    let places : p.replica.places ≡ j.replica.places = ap (λ (x : ReplicaView). x.places) h.replica in
    let refused : admits j.settings j.replica.places (served_by p) request ≡ false =
    subst (λ (n : ℕ). admits j.settings n (served_by p) request ≡ false) places (subst (λ (s : Settings). admits s p.replica.places (served_by p) request ≡ false) h.settings is)
    in
    subst (λ (x : JobParts). IsServing j x) (sym (dropped is))
    (serving_same j p (Ask request) h (served_dropped j.settings j.replica.places p.taker.taken (served_by p) h.served request refused))

-- what the taker is after it has taken this note
note_is : (p : JobParts) (t : TakerView Note) (x note : Note) → t ≡ record p.taker { taken = p.taker.taken ++ x ∷ [] } → x ≡ note
    → record p { taker = t } ≡ with_note note p
note_is p t x note took is =
    ap (λ (u : TakerView Note). record p { taker = u }) took ∙ ap (λ (n : Note). with_note n p) is

-- after a request
pub serving_request : (j : JobView) (p q : JobParts) (t : TakerView Note) (x : Note) (request : Request) → IsServing j p
    → t ≡ record p.taker { taken = p.taker.taken ++ x ∷ [] } → x ≡ Ask request
    → (admits_now (record p { taker = t }) request ≡ true → IsServedOne (record p { taker = t }) q request)
    → (admits_now (record p { taker = t }) request ≡ false → q ≡ record p { taker = t }) → IsServing j q
serving_request j p q t x request h took is served dropped =
    let same = note_is p t x (Ask request) took is in
    serving_by_choice (admits_now p request) j p q request h refl
    (subst (λ (y : JobParts). admits_now y request ≡ true → IsServedOne y q request) same served)
    (subst (λ (y : JobParts). admits_now y request ≡ false → q ≡ y) same dropped)

-- where there was no note
pub serving_empty : (j : JobView) (p : JobParts) (t : TakerView Note) → IsServing j p → t ≡ record p.taker { empties = p.taker.empties + 1 }
    → IsServing j (record p { taker = t })
serving_empty j p t h found =
    let same = serving_with j p p (record p.taker { empties = p.taker.empties + 1 }) h refl h.served refl (λ client c less. refl) h.done in
    subst (λ (u : TakerView Note). IsServing j (record p { taker = u })) (sym found) same

-- a client that is marked was done before, or the note says so
marked_cases : (done client : ℕ) (c : Caller) → (with_done done client c).done ≡ true → (c.done ≡ true) ⊎ (client ≡ done)
marked_cases done client c yet = elim (cases_eq client done) [
  | inl same ↦ inr same
  | inr other ↦ inl (sym (ap (λ (b : Bool). (if b then record c { done = true } else c).done) (ne_eqb client done other)) ∙ yet)
]

answered_same : (done client : ℕ) (c : Caller) → (with_done done client c).answered ≡ c.answered
answered_same done client c = elim (cases_eq client done) [
  | inl same ↦ ap (λ (b : Bool). (if b then record c { done = true } else c).answered) (eq-eqb client done same)
  | inr other ↦ ap (λ (b : Bool). (if b then record c { done = true } else c).answered) (ne_eqb client done other)
]

serving_marked : (j : JobView) (p q : JobParts) (client : ℕ) → IsServing j p → length q.callers.items ≡ length p.callers.items
    → ((k : ℕ) (c : Caller) → k < length p.callers.items → slice_index_or q.callers.items k c ≡ with_done client k (slice_index_or p.callers.items k c))
    → IsServing j (record (with_note (Done client) p) { callers = q.callers })
serving_marked j p q client h many marked =
    let inside : (k : ℕ) → k < p.settings.clients → k < length p.callers.items = λ k less. let as_many = h.ready.callers in omega (arith, less) in
    serving_with j p q (with_note (Done client) p).taker h refl (served_done j.settings j.replica.places p.taker.taken (served_by p) h.served client) many
    (λ k c less. ap (λ (x : Caller). x.answered) (marked k c (inside k less)) ∙ answered_same client k (slice_index_or p.callers.items k c))
    (λ k c less yet.
    let less_p : k < p.settings.clients = subst (λ (s : Settings). k < s.clients) (sym h.settings) less in
    elim (marked_cases client k (slice_index_or p.callers.items k c) (sym (ap (λ (x : Caller). x.done) (marked k c (inside k less_p))) ∙ yet)) [
      | inl before ↦ Contains-append_left p.taker.taken (Done client ∷ []) (Done k) (h.done k c less before)
      | inr now ↦ subst (λ (n : ℕ). Contains (p.taker.taken ++ Done client ∷ []) (Done n)) (sym now) (Contains-push p.taker.taken (Done client))
    ])

-- after a note that a client is done
pub serving_done : (j : JobView) (p q : JobParts) (t : TakerView Note) (x : Note) (client : ℕ) → IsServing j p
    → t ≡ record p.taker { taken = p.taker.taken ++ x ∷ [] } → x ≡ Done client → IsMarkedDone (record p { taker = t }) q client → IsServing j q
serving_done j p q t x client h took is marked =
    let now : IsMarkedDone (with_note (Done client) p) q client = subst (λ (y : JobParts). IsMarkedDone y q client) (note_is p t x (Done client) took is) marked in
    subst (λ (y : JobParts). IsServing j y) (sym now.rest) (serving_marked j p q client h now.callers_many now.callers)

-- before the first note
pub serving_none : (p : JobParts) → IsFreshJob p → CanServe (view_of p) → IsServing (view_of p) p
serving_none p fresh can =
    let none : Caller = record { answered = 0; done = false } in
    let caller : (k : ℕ) (c : Caller) → k < p.settings.clients → slice_index_or p.callers.items k c ≡ none =
    λ k c less. ap (λ (l : List Caller). slice_index_or l k c) fresh ∙ get_or-replicate p.settings.clients k none c less
    in
    let empty : p.replica.journal ≡ [] = can.nothing in
    let many : length p.replica.journal ≡ 0 = ap (λ (l : List JournalEntry). length l) empty in
    let served : served_by p ≡ [] = ap (λ (l : List JournalEntry). requests_of l) empty in
    let serves : serves_of p.replica.journal ≡ p.seat.drawn = ap (λ (l : List JournalEntry). serves_of l) empty ∙ sym can.none_drawn in
    let left : p.seat.left - length p.replica.journal ≡ p.seat.left = omega arith in
    record {
      ready = record {
        limits = can.limits;
        own = can.own;
        inbox = can.inbox;
        keys = can.keys;
        left = let enough = can.left in omega arith;
        later = subst (λ (l : List JournalEntry). All (λ (e : JournalEntry). e.reply.serve < p.seat.seen) l) (sym empty) (λ k d less. absurd (omega (arith, less)));
        as_many = can.as_many;
        routes = λ client r less.
            let route = can.routes client r less in
            record { own = route.own; number = route.number; budget = let room = route.budget in omega arith };
        callers = ap (λ (l : List Caller). length l) fresh ∙ length-replicate p.settings.clients none;
        answered = λ client c less. ap (λ (x : Caller). x.answered) (caller client c less) ∙ sym (ap (λ (l : List Request). length (answered_to client l)) served);
      };
      settings = refl;
      box = refl;
      replica = refl;
      journal = subst (λ (l : List JournalEntry). IsJournal p.replica.number l) (sym empty) (empty_journal p.replica.number);
      served = served ∙ sym (ap (λ (notes : List Note). served_after p.settings p.replica.places [] (asked_in notes)) can.none_taken);
      seat = rw (serves, left) refl;
      as_many = refl;
      routes = λ client r less.
          sym (ap (λ (l : List JournalEntry). with_replies (replies_to client l) (slice_index_or p.routes.items client r)) empty ∙ with_no_replies (slice_index_or p.routes.items client r));
      done = λ client c less yet. absurd (false≢true (sym (ap (λ (x : Caller). x.done) (caller client c less)) ∙ yet));
    }

-- when all are done
pub served_out : (j : JobView) (p : JobParts) (e : BenchEnd) → IsServing j p → list_all (λ (c : Caller). c.done) p.callers.items ≡ true
    → e ≡ record { replica = p.replica; seat = p.seat; taker = p.taker; routes = p.routes } → IsServedOut j e
served_out j p e h all is =
    let out : IsServedOut j (record { replica = p.replica; seat = p.seat; taker = p.taker; routes = p.routes }) = record {
      done = λ client less.
          let none : Caller = record { answered = 0; done = false } in
          let inside : client < length p.callers.items =
          let as_many = h.ready.callers in let same = ap (λ (s : Settings). s.clients) h.settings in omega arith
          in
          h.done client none less (AllPass-from_list_all (λ (c : Caller). c.done) p.callers.items all client none inside);
      box = h.box;
      replica = h.replica;
      journal = h.journal;
      served = h.served;
      seat = h.seat;
      as_many = h.as_many;
      routes = h.routes;
    } in
    subst (λ (x : BenchEnd). IsServedOut j x) (sym is) out
