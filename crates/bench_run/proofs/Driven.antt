-- What is left of a run that was ready, by what each call of it tells.
use Rattle.std.proofs.Common.{◌≡◌, ℕ, zero, suc, ◌+◌, ◌*◌, ◌<◌, ◌≤◌, Bool, true, false, cond, List, [], ◌∷◌, ◌++◌, length, map, refl, sym, ◌∙◌, ap, subst, arith, length-append}
use Rattle.std.specs.Prelude.{All, Some, flat_map, sum_by, slice_get, slice_index_or}
use Rattle.std.specs.Arc.{arc_value}
use Rattle.std.specs.List.{range_with_len}
use mathlib.Core.Logic.{dite}
use native.Mathlib.Decide.{ℕ_discrete}
use Rattle.std.proofs.Math.Nat.{mul_comm, mul_assoc, add-mul}
use Rattle.std.proofs.lemmas.Bool.{ne_eqb}
use Rattle.std.proofs.lemmas.Bool.Decides.{nat_tests}
use Rattle.std.proofs.lemmas.Option.{slice_get_within, get_or_from_slice_get}
use Rattle.std.proofs.lemmas.List.{length-map, get_or-map}
use Rattle.std.specs.List.Sorted.{IsPermutation}
use Rattle.std.proofs.lemmas.List.Sums.{sum_by-cons}
use Rattle.std.proofs.lemmas.List.Sorted.{IsPermutation-sym, IsPermutation-trans}
use mathlib.Core.List.{IsPrefix}
use Rattle.stale_model.specs.declared.store.Settings.{Settings}
use Rattle.stale_model.specs.declared.store.Request.{Request}
use Rattle.stale_model.specs.declared.store.Reply.{Reply}
use Rattle.stale_model.specs.declared.store.JournalEntry.{JournalEntry}
use Rattle.stale_model.specs.declared.store.Entry.{Entry}
use Rattle.stale_model.specs.Serving.{admits, served_after}
use Rattle.stale_model.specs.RecordedRuns.{tickets_of}
use Rattle.run_laws.specs.Laws.{replies_to, taken_of}
use Rattle.run_laws.specs.Parts.{all_calls}
use Rattle.run_laws.proofs.Parts.{parts_are_recorded}
use Rattle.run_laws.proofs.Tickets.{tickets_of_parts}
use Rattle.ticket_clock.specs.Seats.{ClockView, SeatView, HasNoneTwice, IsOneToLength, times}
use Rattle.ticket_clock.proofs.Totals.{times_cons}
use Rattle.post_box.specs.Boxes.{letters_of}
use Rattle.quorum_client.specs.declared.letters.Note.{Note}
use Rattle.quorum_client.specs.declared.letters.Note.TheVariants.{Done}
use Rattle.quorum_client.specs.declared.letters.Route.{Route}
use Rattle.quorum_client.specs.declared.client.ClientEnd.{ClientEnd}
use Rattle.quorum_client.specs.Letters.{sender_of}
use Rattle.quorum_client.specs.Routes.{IsReadyRoute, with_sent}
use Rattle.key_recorder.specs.Letters.{entries_in}
use Rattle.key_recorder.specs.Recorders.{LogView}
use Rattle.key_recorder.specs.Prepared.{IsPrepared}
use Rattle.key_recorder.specs.Collected.{IsCollected}
use Rattle.bench_run.specs.declared.boxes.NoteBox.{NoteBox}
use Rattle.bench_run.specs.declared.boxes.ReplyBox.{ReplyBox}
use Rattle.bench_run.specs.declared.job.ReplyRoute.{ReplyRoute}
use Rattle.bench_run.specs.declared.job.BenchEnd.{BenchEnd}
use Rattle.bench_run.specs.declared.job.JobParts.{JobParts}
use Rattle.bench_run.specs.declared.parts.ClientParts.{ClientParts}
use Rattle.bench_run.specs.declared.prepared.Prepared.TheInside.{Inside}
use Rattle.bench_run.specs.Jobs.{JobView, asked_in, CanServe, IsServedOut}
use Rattle.bench_run.specs.JobSteps.{view_of}
use Rattle.bench_run.specs.Clients.{tickets_of_calls, notes_to}
use Rattle.bench_run.specs.Ends.{sent_by, replier_of, IsOwnNotes, IsOwnReplies, IsClientOf, IsReplicaOf, AreToldNotes, AreTakenReplies, HasTickets}
use Rattle.bench_run.specs.Ready.{places, tickets, plan_in, IsReadyReplica, IsReadyClient}
use Rattle.bench_run.specs.Prepared.{IsReadyRun}
use Rattle.bench_run.specs.Logs.{AreLogged}
use Rattle.bench_run.specs.Left.{IsClientEnd, IsReplicaEnd, AreNotesOf, AreEnds, taken_in, came_in, journals_of}
use Rattle.bench_run.specs.Drive.{logged_in, IsRecordedOut}
use Rattle.bench_run.specs.Ended.{CanMakeCalls, IsEndOf, AreCalled}
use Rattle.bench_run.proofs.Gathered.{stands, ends_are_parts, tickets_are}
use Rattle.bench_run.proofs.Logged.{logged_are_calls}

-- a list of length 0
pub no_items : {X : Type 0} (xs : List X) → length xs ≡ 0 → xs ≡ []
no_items [] none = refl
no_items (x ∷ xs) none = absurd (omega arith)

-- a number that stands in a range is below its end
below_range : (x a n : ℕ) → 0 < times x (range_with_len a n) → x < a + n
below_range x a zero some = absurd (omega arith)
below_range x a (suc n) some =
    dite (ℕ_discrete a x) (λ (here : a ≡ x). omega arith)
    (λ (other : a ≡ x → ⊥).
    let rest : 0 < times x (range_with_len (a + 1) n) = let all = times_cons x a (range_with_len (a + 1) n) in let no_one = ne_eqb a x other in grind (arith, nat_tests) in
    let low = below_range x (a + 1) n rest in omega arith)

-- a call draws two tickets
two_each : (es : List Entry) → length (tickets_of_calls es) ≡ 2 * length es
two_each [] = refl
two_each (e ∷ es) = let rest = two_each es in omega arith

has_place : (s : Settings) (places : ℕ) (served : List Request) (q : Request) → admits s places served q ≡ true → length served < places
has_place s places served q is = grind (arith, nat_tests, is)

-- a replica serves no more than it has places for
served_one : (b : Bool) (s : Settings) (places : ℕ) (served : List Request) (q : Request) (qs : List Request) → admits s places served q ≡ b → length served ≤ places
    → ((next : List Request) → length next ≤ places → length (served_after s places next qs) ≤ places)
    → length (served_after s places (cond b (served ++ q ∷ []) served) qs) ≤ places
served_one true s places served q qs is few rest = rest (served ++ q ∷ []) (let long = length-append served (q ∷ []) in let room = has_place s places served q is in omega arith)
served_one false s places served q qs is few rest = rest served few

pub served_fits : (s : Settings) (places : ℕ) (served qs : List Request) → length served ≤ places → length (served_after s places served qs) ≤ places
served_fits s places served [] few = few
served_fits s places served (q ∷ qs) few = served_one (admits s places served q) s places served q qs refl few (λ next fits. served_fits s places next qs fits)

-- where each seat together with what is left to it has the same number, all have that many times as many
all_counted : {E : Type 0} (drawn : E → List ℕ) (left : E → ℕ) (n : ℕ) (es : List E) → ((k : ℕ) (e : E) → slice_get es k ≡ Some e → length (drawn e) + left e ≡ n)
    → length (flat_map drawn es) + sum_by left es ≡ length es * n
all_counted drawn left n [] each = omega arith
all_counted drawn left n (e ∷ es) each =
    let first = each 0 e refl in
    let rest = all_counted drawn left n es (λ k d at. each (suc k) d at) in
    let long = length-append (drawn e) (flat_map drawn es) in
    let sum = sum_by-cons left e es in
    let more = add-mul 1 (length es) n in
    omega arith

-- the budget, by clients and by replicas
twice_inside : (a b : ℕ) → a * (2 * b) ≡ 2 * (a * b)
twice_inside a b = sym (mul_assoc a 2 b) ∙ (ap (λ (n : ℕ). n * b) (mul_comm a 2) ∙ mul_assoc 2 a b)

all_tickets : (clients calls replicas : ℕ) → clients * (2 * calls) + replicas * (2 * (clients * calls)) ≡ clients * calls * (2 * replicas + 2)
all_tickets clients calls replicas =
    let first = twice_inside clients calls in
    let second = twice_inside replicas (clients * calls) in
    let turned = mul_comm (clients * calls) (2 * replicas + 2) in
    let parts = add-mul (2 * replicas) 2 (clients * calls) in
    let inner = mul_assoc 2 replicas (clients * calls) in
    omega arith

module _ (p : Inside) (ready : IsReadyRun p) where
  box_there : (k : ℕ) → k < p.settings.replicas → (b : NoteBox) × (slice_get p.boxes.items k ≡ Some b)
  box_there k low = stands p.boxes.items k (let many = ready.boxes.as_many in omega arith)

  inbox_there : (k : ℕ) → k < p.settings.clients → (b : ReplyBox) × (slice_get p.inboxes.items k ≡ Some b)
  inbox_there k low = stands p.inboxes.items k (let many = ready.boxes.as_many_inboxes in omega arith)

  client_there : (k : ℕ) → k < p.settings.clients → (c : ClientParts) × (slice_get p.clients.items k ≡ Some c)
  client_there k low = stands p.clients.items k (let many = ready.clients.as_many in omega arith)

  job_there : (k : ℕ) → k < p.settings.replicas → (r : JobParts) × (slice_get p.replicas.items k ≡ Some r)
  job_there k low = stands p.replicas.items k (let many = ready.replicas.as_many in omega arith)

  -- replica k, as its job
  job_at : (k : ℕ) (r : JobParts) (b : NoteBox) → k < p.settings.replicas
      → IsReadyReplica p.settings (arc_value p.clock) k (slice_index_or p.boxes.items k b) p.inboxes.items (view_of (slice_index_or p.replicas.items k r))
  job_at k r b low = ready.replicas.each k b r low

  pub can_serve : (k : ℕ) (r : JobParts) → k < p.settings.replicas → CanServe (view_of (slice_index_or p.replicas.items k r))
  can_serve k r low =
      let (b, at) = box_there k low in
      let j = ready.replicas.each k b r low in
      record {
        limits = rw j.settings_are ready.limits;
        keys = ap (λ x. x.keys) j.replica ∙ sym (ap (λ (x : Settings). x.keys) j.settings_are);
        nothing = ap (λ x. x.journal) j.replica;
        own = j.seat_of ∙ sym (ap (λ x. x.id) j.clock_is);
        none_drawn = j.none_drawn;
        left = let many = ap (λ x. x.places) j.replica in let left = j.left in omega arith;
        inbox = j.taker ∙ sym j.inbox;
        none_taken = j.none_taken;
        as_many = j.as_many ∙ sym (ap (λ (x : Settings). x.clients) j.settings_are);
        routes = λ c d few. rw (ap (λ x. x.number) j.replica, ap (λ (x : Settings). x.calls) j.settings_are) (j.routes c d (subst (λ (x : Settings). c < x.clients) j.settings_are few));
      }

  pub numbered : (k : ℕ) (r : JobParts) → k < p.settings.replicas → (view_of (slice_index_or p.replicas.items k r)).replica.number ≡ k
  numbered k r low = let (b, at) = box_there k low in ap (λ x. x.number) (ready.replicas.each k b r low).replica

  -- what client k needs, whatever the box that stands for none
  client_at : (k : ℕ) (c : ClientParts) → k < p.settings.clients → (b : ReplyBox) × IsReadyClient p.settings (arc_value p.clock) k (slice_index_or p.inboxes.items k b) p.boxes.items (slice_index_or p.clients.items k c)
  client_at k c low = let (b, at) = inbox_there k low in (b, ready.clients.each k b c low)

  routes_all : (k many : ℕ) (c : ClientParts) → k < p.settings.clients → many ≤ 2 * p.settings.calls + 1 → All (IsReadyRoute k many) (slice_index_or p.clients.items k c).routes.items
  routes_all k many c low few i d within =
      let (b, is) = client_at k c low in
      let r = is.routes i d (let all = is.as_many in let same = (slice_index_or p.clients.items k c).routes.ok.0 in omega arith) in
      (r.0, r.1, let most = r.2 in omega arith)

  pub can_be_told : (k : ℕ) (c : ClientParts) → k < p.settings.clients → All (IsReadyRoute k 1) (slice_index_or p.clients.items k c).routes.items
  can_be_told k c low = routes_all k 1 c low (omega arith)

  pub can_make_calls : (k : ℕ) (c : ClientParts) → k < p.settings.clients
      → CanMakeCalls p.settings (plan_in p.clients.items) (arc_value p.clock) k (slice_index_or p.clients.items k c)
  can_make_calls k c low =
      let (b, is) = client_at k c low in
      record {
        planned = sym (get_or-map (λ (x : ClientParts). x.calls) p.clients.items k c [] (let many = ready.clients.as_many in omega arith));
        as_planned = is.calls;
        seat_of = is.seat_of;
        none_drawn = is.none_drawn;
        left = let left = is.left in omega arith;
        taker = is.taker ∙ sym is.inbox_is;
        none_taken = is.none_taken;
        as_many = is.as_many;
        routes = routes_all k (2 * p.settings.calls + 1) c low (omega arith);
      }

  pub clients_can : (clock : ClockView) (logs : List LogView) → clock ≡ arc_value p.clock → logs ≡ p.logs.items
      → IsPrepared p.settings (plan_in p.clients.items) p.recorder p.passes.items logs
      × ((k : ℕ) (c : ClientParts) → k < p.settings.clients → CanMakeCalls p.settings (plan_in p.clients.items) clock k (slice_index_or p.clients.items k c))
  clients_can clock logs same_clock same_logs = (
    subst (λ (gs : List LogView). IsPrepared p.settings (plan_in p.clients.items) p.recorder p.passes.items gs) (sym same_logs) ready.recorder,
    λ k c low. subst (λ (v : ClockView). CanMakeCalls p.settings (plan_in p.clients.items) v k (slice_index_or p.clients.items k c)) (sym same_clock) (can_make_calls k c low),
  )

  pub own_boxes : (k : ℕ) (b : NoteBox) → k < length p.boxes.items → IsOwnNotes (slice_index_or p.boxes.items k b)
  own_boxes k b low = record { own = (ready.boxes.each k b (let many = ready.boxes.as_many in omega arith)).own }

  pub own_inboxes : (k : ℕ) (b : ReplyBox) → k < length p.inboxes.items → IsOwnReplies (slice_index_or p.inboxes.items k b)
  own_inboxes k b low = record { own = (ready.boxes.each_inbox k b (let many = ready.boxes.as_many_inboxes in omega arith)).own }

  module _ (es : List ClientEnd) (gs : List LogView) (called : AreCalled p.settings (plan_in p.clients.items) p.clients.items es gs) where
    client_end : (k : ℕ) (c : ClientParts) (e : ClientEnd) → slice_get es k ≡ Some e → IsEndOf p.settings (plan_in p.clients.items) k (slice_index_or p.clients.items k c) (called.calls k) e
    client_end k c e at =
        let low : k < p.settings.clients = let within = slice_get_within es k e at in let many = called.as_many_ends in omega arith in
        subst (λ (x : ClientEnd). IsEndOf p.settings (plan_in p.clients.items) k (slice_index_or p.clients.items k c) (called.calls k) x)
        (get_or_from_slice_get es k e e at) (called.each_end k c e low)

    within_clients : (k : ℕ) (e : ClientEnd) → slice_get es k ≡ Some e → k < p.settings.clients
    within_clients k e at = let within = slice_get_within es k e at in let many = called.as_many_ends in omega arith

    -- the route of a client's end to a replica
    route_of : (k replica : ℕ) (c : ClientParts) (e : ClientEnd) (r : Route) → replica < p.settings.replicas → slice_get es k ≡ Some e → slice_get e.routes replica ≡ Some r
        → r ≡ with_sent (notes_to replica (called.calls k) ++ Done k ∷ []) (slice_index_or (slice_index_or p.clients.items k c).routes.items replica r)
    route_of k replica c e r few at there =
        let (b, is) = client_at k c (within_clients k e at) in
        sym (get_or_from_slice_get e.routes replica r r there) ∙ (client_end k c e at).routes replica r (let many = is.as_many in omega arith)

    route_there : (k replica : ℕ) (e : ClientEnd) → replica < p.settings.replicas → slice_get es k ≡ Some e → (r : Route) × (slice_get e.routes replica ≡ Some r)
    route_there k replica e few at =
        let (c, here) = client_there k (within_clients k e at) in
        let (b, is) = client_at k c (within_clients k e at) in
        stands e.routes replica (let many = is.as_many in let same = (client_end k c e at).as_many in omega arith)

    sent_is : (k replica : ℕ) (e : ClientEnd) → replica < p.settings.replicas → slice_get es k ≡ Some e → sent_by replica e ≡ notes_to replica (called.calls k) ++ Done k ∷ []
    sent_is k replica e few at =
        let (c, here) = client_there k (within_clients k e at) in
        let (b, is) = client_at k c (within_clients k e at) in
        let (r, there) = route_there k replica e few at in
        rw there (ap (λ (x : Route). x.pass.sent) (route_of k replica c e r few at there)
        ∙ ap (λ (xs : List Note). xs ++ (notes_to replica (called.calls k) ++ Done k ∷ [])) (is.none_sent replica r few))

    number_is : (k replica : ℕ) (e : ClientEnd) (r : Route) → replica < p.settings.replicas → slice_get es k ≡ Some e → slice_get e.routes replica ≡ Some r → r.pass.number ≡ k
    number_is k replica e r few at there =
        let (c, here) = client_there k (within_clients k e at) in
        let (b, is) = client_at k c (within_clients k e at) in
        ap (λ (x : Route). x.pass.number) (route_of k replica c e r few at there) ∙ (is.routes replica r few).1

    client_is : (k : ℕ) (e : ClientEnd) → slice_get es k ≡ Some e → IsClientEnd p.settings (plan_in p.clients.items) k (called.calls k) e
    client_is k e at =
        let (c, here) = client_there k (within_clients k e at) in
        let x = client_end k c e at in
        record { share = x.share; drawn = ap (λ (v : SeatView). v.drawn) x.seat; sent = λ replica few. sent_is k replica e few at }

    -- the end of a client fits the boxes
    pub client_fits : (k : ℕ) (e : ClientEnd) (b : ReplyBox) → k < length es → IsClientOf p.seat (slice_index_or p.inboxes.items k b) p.boxes.items (slice_index_or es k e)
    client_fits k e b low =
        let few : k < p.settings.clients = let many = called.as_many_ends in omega arith in
        let (c, here) = client_there k few in
        let is = ready.clients.each k b c few in
        let x = called.each_end k c e few in
        record {
          seat_is = ap (λ (v : SeatView). v.clock) x.seat ∙ (is.seat_of ∙ sym ready.clock.own);
          taker = x.box ∙ is.taker;
          routes = record {
            as_many = x.as_many ∙ (is.as_many ∙ sym ready.boxes.as_many);
            each = λ replica r d within.
                let small : replica < p.settings.replicas = let many = ready.boxes.as_many in omega arith in
                ap (λ (v : Route). v.pass.box) (x.routes replica r (let many = is.as_many in omega arith)) ∙ ((is.routes replica r small).0 ∙ is.to replica r d small);
          };
        }

    client_counted : (k : ℕ) (e : ClientEnd) → slice_get es k ≡ Some e → length e.seat.drawn + e.seat.left ≡ 2 * p.settings.calls
    client_counted k e at =
        let low = within_clients k e at in
        let (c, here) = client_there k low in
        let (b, is) = client_at k c low in
        let x = client_end k c e at in
        let drawn = ap (λ (v : SeatView). length v.drawn) x.seat in
        let left = ap (λ (v : SeatView). v.left) x.seat in
        let long = two_each (called.calls k) in
        let many = x.share.as_many in
        let planned = ready.whole.calls k low in
        let room = is.left in
        omega arith

    module _ (jobs : List JobView) (bs : List BenchEnd) (jobs_are : jobs ≡ map view_of p.replicas.items) (as_many : length bs ≡ p.settings.replicas)
        (served : (k : ℕ) (j : JobView) (e : BenchEnd) → k < p.settings.replicas → IsServedOut (slice_index_or jobs k j) (slice_index_or bs k e)) where
      within_replicas : (k : ℕ) (e : BenchEnd) → slice_get bs k ≡ Some e → k < p.settings.replicas
      within_replicas k e at = let within = slice_get_within bs k e at in let many = as_many in omega arith

      job_is : (k : ℕ) (r : JobParts) (j : JobView) → k < p.settings.replicas → slice_index_or jobs k j ≡ view_of (slice_index_or p.replicas.items k r)
      job_is k r j low = ap (λ (js : List JobView). slice_index_or js k j) jobs_are ∙ get_or-map view_of p.replicas.items k r j (let many = ready.replicas.as_many in omega arith)

      replica_end : (k : ℕ) (r : JobParts) (e : BenchEnd) → k < p.settings.replicas → IsServedOut (view_of (slice_index_or p.replicas.items k r)) (slice_index_or bs k e)
      replica_end k r e low = subst (λ (x : JobView). IsServedOut x (slice_index_or bs k e)) (job_is k r (view_of r) low) (served k (view_of r) e low)

      replica_end_at : (k : ℕ) (r : JobParts) (e : BenchEnd) → slice_get bs k ≡ Some e → IsServedOut (view_of (slice_index_or p.replicas.items k r)) e
      replica_end_at k r e at = subst (λ (x : BenchEnd). IsServedOut (view_of (slice_index_or p.replicas.items k r)) x) (get_or_from_slice_get bs k e e at) (replica_end k r e (within_replicas k e at))

      replica_is : (k : ℕ) (e : BenchEnd) → slice_get bs k ≡ Some e → IsReplicaEnd p.settings (places p.settings) k e
      replica_is k e at =
          let low = within_replicas k e at in
          let (r, here) = job_there k low in
          let (b, there) = box_there k low in
          let j = ready.replicas.each k b r low in
          let x = replica_end_at k r e at in
          record {
            done = λ client few. x.done client (subst (λ (s : Settings). client < s.clients) (sym j.settings_are) few);
            journal = rw (← ap (λ v. v.number) j.replica) x.journal;
            served = x.served ∙ (ap (λ (s : Settings). served_after s (view_of (slice_index_or p.replicas.items k r)).replica.places [] (asked_in e.taker.taken)) j.settings_are
                ∙ ap (λ (n : ℕ). served_after p.settings n [] (asked_in e.taker.taken)) (ap (λ v. v.places) j.replica));
            drawn = ap (λ (v : SeatView). v.drawn) x.seat;
          }

      replica_counted : (k : ℕ) (e : BenchEnd) → slice_get bs k ≡ Some e → length e.seat.drawn + e.seat.left ≡ places p.settings
      replica_counted k e at =
          let low = within_replicas k e at in
          let (r, here) = job_there k low in
          let (b, there) = box_there k low in
          let j = ready.replicas.each k b r low in
          let x = replica_end_at k r e at in
          let drawn = ap (λ (v : SeatView). length v.drawn) x.seat in
          let left = ap (λ (v : SeatView). v.left) x.seat in
          let long = length-map e.replica.journal (λ (i : JournalEntry). i.reply.serve) in
          let asked = length-map e.replica.journal (λ (i : JournalEntry). i.request) in
          let is = ap (λ (qs : List Request). length qs) (replica_is k e at).served in
          let few = served_fits p.settings (places p.settings) [] (asked_in e.taker.taken) (omega arith) in
          let room = j.left in
          grind arith

      -- all tickets that were drawn, and those that are left, are the budget
      pub counted : length (flat_map (λ e. e.seat.drawn) es) + sum_by (λ e. e.seat.left) es + (length (flat_map (λ e. e.seat.drawn) bs) + sum_by (λ e. e.seat.left) bs) ≡ tickets p.settings
      counted =
          let first = all_counted (λ (e : ClientEnd). e.seat.drawn) (λ (e : ClientEnd). e.seat.left) (2 * p.settings.calls) es client_counted in
          let second = all_counted (λ (e : BenchEnd). e.seat.drawn) (λ (e : BenchEnd). e.seat.left) (places p.settings) bs replica_counted in
          let clients = ap (λ (n : ℕ). n * (2 * p.settings.calls)) called.as_many_ends in
          let replicas = ap (λ (n : ℕ). n * places p.settings) as_many in
          let total = all_tickets p.settings.clients p.settings.calls p.settings.replicas in
          omega arith

      -- the end of a replica fits the inboxes
      pub replica_fits : (k : ℕ) (e : BenchEnd) (b : NoteBox) → k < length bs → IsReplicaOf p.seat (slice_index_or p.boxes.items k b) p.inboxes.items (slice_index_or bs k e)
      replica_fits k e b low =
          let few : k < p.settings.replicas = let many = as_many in omega arith in
          let (r, here) = job_there k few in
          let j = ready.replicas.each k b r few in
          let x = replica_end k r e few in
          record {
            seat_is = ap (λ (v : SeatView). v.clock) x.seat ∙ (j.seat_of ∙ sym ready.clock.own);
            taker = x.box ∙ j.taker;
            routes = record {
              as_many = x.as_many ∙ (j.as_many ∙ sym ready.boxes.as_many_inboxes);
              each = λ client d i within.
                  let small : client < p.settings.clients = let many = ready.boxes.as_many_inboxes in omega arith in
                  ap (λ (v : ReplyRoute). v.pass.box) (x.routes client d (let many = j.as_many in omega arith)) ∙ ((j.routes client d small).own ∙ j.to client d i small);
            };
          }

      notes_are : ((k : ℕ) (b : NoteBox) (e : BenchEnd) → k < length p.boxes.items → AreToldNotes k es (slice_index_or p.boxes.items k b) (slice_index_or bs k e))
          → (k : ℕ) (e : BenchEnd) → slice_get bs k ≡ Some e → AreNotesOf p.settings k es e
      notes_are told k e at =
          let low = within_replicas k e at in
          let (b, there) = box_there k low in
          let fresh = ready.boxes.each k b low in
          let t = subst (λ (x : BenchEnd). AreToldNotes k es (slice_index_or p.boxes.items k b) x) (get_or_from_slice_get bs k e e at) (told k b e (slice_get_within p.boxes.items k b there)) in
          record {
            known = λ client some. let low = below_range client 0 p.settings.clients (subst (λ (xs : List ℕ). 0 < times client xs) fresh.numbers (t.known client some)) in omega arith;
            taken = λ client few.
                let (d, here) = stands es client (let many = called.as_many_ends in omega arith) in
                let (r, on) = route_there client k d low here in
                let began = subst (λ (n : ℕ). IsPrefix (letters_of sender_of n e.taker.taken) (letters_of sender_of n ((slice_index_or p.boxes.items k b).whole.sent ++ flat_map (sent_by k) es)))
                (number_is client k d r low here on) (t.taken client d r here on) in
                subst (λ (xs : List Note). IsPrefix (letters_of sender_of client e.taker.taken) (letters_of sender_of client (xs ++ flat_map (sent_by k) es))) fresh.sent began;
          }

      replies_are : ((k c : ℕ) (d : ClientEnd) (e : BenchEnd) (r : ReplyRoute) → k < length bs → c < length es
          → AreTakenReplies (slice_index_or es c d) (slice_index_or (slice_index_or bs k e).routes.items c r))
          → (k c : ℕ) (e : BenchEnd) (d : ClientEnd) → slice_get bs k ≡ Some e → slice_get es c ≡ Some d → IsPrefix (taken_of k d.taker.taken) (replies_to c e.replica.journal)
      replies_are told k c e d at here =
          let low = within_replicas k e at in
          let few = within_clients c d here in
          let (r, there) = job_there k low in
          let (b, box) = box_there k low in
          let j = ready.replicas.each k b r low in
          let x = replica_end_at k r e at in
          let (v, on) = stands e.routes.items c (let many = x.as_many in let all = j.as_many in omega arith) in
          let route = sym (get_or_from_slice_get e.routes.items c v v on) ∙ x.routes c v (let all = j.as_many in omega arith) in
          let number = ap (λ (w : ReplyRoute). w.pass.number) route ∙ (j.routes c v few).number in
          let sent = ap (λ (w : ReplyRoute). w.pass.sent) route ∙ ap (λ (xs : List Reply). xs ++ replies_to c e.replica.journal) (j.routes c v few).none in
          let t = told k c d e v (slice_get_within bs k e at) (slice_get_within es c d here) in
          let u = subst (λ (y : BenchEnd). AreTakenReplies (slice_index_or es c d) (slice_index_or y.routes.items c v)) (get_or_from_slice_get bs k e e at) t in
          let w = subst (λ (y : ReplyRoute). AreTakenReplies (slice_index_or es c d) y) (get_or_from_slice_get e.routes.items c v v on) u in
          let m = subst (λ (y : ClientEnd). AreTakenReplies y v) (get_or_from_slice_get es c d d here) w in
          let o = subst (λ (n : ℕ). IsPrefix (letters_of replier_of n d.taker.taken) v.pass.sent) number m in
          subst (λ (xs : List Reply). IsPrefix (letters_of replier_of k d.taker.taken) xs) sent o

      -- what is known of the ends
      pub ends_are : (seat : SeatView)
          → HasTickets (flat_map (λ e. e.seat.drawn) es ++ flat_map (λ e. e.seat.drawn) bs) (sum_by (λ e. e.seat.left) es + sum_by (λ e. e.seat.left) bs) p.seat seat
          → HasNoneTwice seat.drawn
          → ((k : ℕ) (b : NoteBox) (e : BenchEnd) → k < length p.boxes.items → AreToldNotes k es (slice_index_or p.boxes.items k b) (slice_index_or bs k e))
          → ((k c : ℕ) (d : ClientEnd) (e : BenchEnd) (r : ReplyRoute) → k < length bs → c < length es
          → AreTakenReplies (slice_index_or es c d) (slice_index_or (slice_index_or bs k e).routes.items c r))
          → AreEnds p.settings (plan_in p.clients.items) (places p.settings) called.calls es bs seat.drawn
      ends_are seat has once told_notes told_replies = record {
        as_many_clients = called.as_many_ends;
        as_many_replicas = as_many;
        client = client_is;
        replica = replica_is;
        notes = notes_are told_notes;
        replies = replies_are told_replies;
        drawn_is = has.drawn ∙ ap (λ (xs : List ℕ). xs ++ (flat_map (λ e. e.seat.drawn) es ++ flat_map (λ e. e.seat.drawn) bs)) ready.clock.none_drawn;
        once = once;
      }

      -- the seat has drawn, and may draw, the budget
      pub budget_is : (seat : SeatView)
          → HasTickets (flat_map (λ e. e.seat.drawn) es ++ flat_map (λ e. e.seat.drawn) bs) (sum_by (λ e. e.seat.left) es + sum_by (λ e. e.seat.left) bs) p.seat seat
          → length seat.drawn + seat.left ≡ tickets p.settings
      budget_is seat has =
          let drawn = ap (λ (xs : List ℕ). length xs)
          (has.drawn ∙ ap (λ (xs : List ℕ). xs ++ (flat_map (λ e. e.seat.drawn) es ++ flat_map (λ e. e.seat.drawn) bs)) ready.clock.none_drawn) in
          let long = length-append (flat_map (λ (e : ClientEnd). e.seat.drawn) es) (flat_map (λ (e : BenchEnd). e.seat.drawn) bs) in
          let left = has.left in let none = ready.clock.none_left in let all = counted in
          omega arith

      -- what is left of the run
      pub recorded_out : (seat : SeatView) (journals : List (List JournalEntry)) → journals ≡ journals_of bs
          → AreEnds p.settings (plan_in p.clients.items) (places p.settings) called.calls es bs seat.drawn → IsOneToLength seat.drawn → length seat.drawn ≤ tickets p.settings
          → IsRecordedOut (record { settings = p.settings; plan = plan_in p.clients.items }) (record { logs = gs; journals = journals; seat = seat })
      recorded_out seat journals are ends once few =
          let s = p.settings in let plan = plan_in p.clients.items in
          let room : s.clients * (2 * s.calls) ≤ places s = let same = twice_inside s.clients s.calls in omega arith in
          let parts = ends_are_parts s plan (places s) called.calls es bs seat.drawn ready.whole room ends in
          let logged = logged_are_calls s called.calls (λ (g : LogView). entries_in g.taken) gs ready.limits.shards.0 called.as_many_logs
          (λ k g at. subst (λ (x : LogView). AreLogged s called.calls k (entries_in x.taken)) (get_or_from_slice_get gs k g g at)
          (called.each_log k g (let within = slice_get_within gs k g at in let many = called.as_many_logs in omega arith))) in
          let same = λ (entries : List Entry) (collected : IsCollected (logged_in gs) entries). IsPermutation-trans (all_calls s called.calls) (logged_in gs) entries logged collected.same in
          record {
            recorded = λ entries collected. rw are (parts_are_recorded s plan (places s) called.calls (λ c. taken_in (slice_get es c)) (λ r. came_in (slice_get bs r)) (journals_of bs) entries
                ready.limits parts (same entries collected) collected.by_start);
            tickets = λ entries collected. rw are (subst (λ (xs : List ℕ). IsPermutation (tickets_of entries (journals_of bs)) xs)
                (tickets_are s plan (places s) called.calls es bs seat.drawn ready.whole room ends)
                (IsPermutation-sym (tickets_of (all_calls s called.calls) (journals_of bs)) (tickets_of entries (journals_of bs)) (tickets_of_parts s called.calls (journals_of bs) entries (same entries collected))));
            once = once;
            few = few;
          }
