-- The ends of a run are its parts.
use Rattle.std.proofs.Common.{◌≡◌, ℕ, Bool, true, false, if◌then◌else◌, zero, suc, ◌+◌, ◌*◌, ◌<◌, ◌≤◌, List, [], ◌∷◌, ◌++◌, length, refl, sym, ◌∙◌, ap, inl, inr, subst, arith, eq-eqb}
use Rattle.std.specs.Prelude.{◌==◌, All, Some, filter, flat_map, slice_get}
use Rattle.std.specs.List.{range_with_len}
use Rattle.std.proofs.lemmas.Bool.{ne_eqb}
use Rattle.std.proofs.lemmas.Bool.Decides.{nat_tests}
use Rattle.std.proofs.lemmas.Option.{slice_get_cases, slice_get_within, get_or_from_slice_get}
use Rattle.std.proofs.lemmas.List.{append-nil, length-map, get_or-map}
use Rattle.std.proofs.lemmas.List.Elements.{All-head, All-tail, All-nil, All-cons, All-append, All-map, All-same, All-weaker, filter-append}
use Rattle.std.proofs.lemmas.Grind.{flat_map-append}
use Rattle.std.proofs.lemmas.List.Folds.{flat_map-map}
use mathlib.Core.List.{IsPrefix}
use Rattle.stale_model.specs.declared.store.Settings.{Settings}
use Rattle.stale_model.specs.declared.store.Plan.{Plan}
use Rattle.stale_model.specs.declared.store.Request.{Request}
use Rattle.stale_model.specs.declared.store.Entry.{Entry}
use Rattle.stale_model.specs.Orders.{IsWithoutRepeats}
use Rattle.stale_model.specs.Calls.{request_of, repair_of, repairs, sent_to}
use Rattle.stale_model.specs.RecordedRuns.{journal_of, tickets_of}
use Rattle.run_laws.specs.Parts.{AreParts, all_calls}
use Rattle.ticket_clock.specs.Seats.{HasNoneTwice, times}
use Rattle.ticket_clock.proofs.Totals.{times_cons}
use Rattle.post_box.specs.Boxes.{letters_of}
use Rattle.quorum_client.specs.declared.letters.Note.{Note}
use Rattle.quorum_client.specs.declared.letters.Note.TheVariants.{Ask, Done}
use Rattle.quorum_client.specs.declared.client.ClientEnd.{ClientEnd}
use Rattle.quorum_client.specs.Letters.{sender_of}
use Rattle.quorum_client.specs.Plans.{IsWhole}
use Rattle.bench_run.specs.declared.job.BenchEnd.{BenchEnd}
use Rattle.bench_run.specs.Jobs.{asked_in, serves_of}
use Rattle.bench_run.specs.Clients.{tickets_of_calls, notes_to}
use Rattle.bench_run.specs.Ends.{sent_by}
use Rattle.bench_run.specs.Left.{AreEnds, taken_in, came_in, journals_of}
use Rattle.bench_run.proofs.Notes.{all_came, asked_clients}

module _ {E X : Type 0} where
  -- what is made of the elements, one after the other, is what is made of their places
  pub by_places : (f : E → List X) (g : ℕ → List X) (n : ℕ) (es : List E) → ((k : ℕ) (e : E) → slice_get es k ≡ Some e → f e ≡ g (n + k)) → flat_map f es ≡ flat_map g (range_with_len n (length es))
  by_places f g n [] same = refl
  by_places f g n (e ∷ es) same =
      let first : f e ≡ g n = same 0 e refl ∙ ap g (let z : n + 0 ≡ n = omega arith in z) in
      let rest = by_places f g (n + 1) es (λ k d at. same (suc k) d at ∙ ap g (let z : n + suc k ≡ (n + 1) + k = omega arith in z)) in
      ap (λ (xs : List X). xs ++ flat_map f es) first ∙ ap (λ (xs : List X). g n ++ xs) rest

  -- where the same is made of each element, the same is made of all
  pub same_made : (f g : E → List X) (es : List E) → ((k : ℕ) (e : E) → slice_get es k ≡ Some e → f e ≡ g e) → flat_map f es ≡ flat_map g es
  same_made f g [] same = refl
  same_made f g (e ∷ es) same =
      let rest = same_made f g es (λ k d at. same (suc k) d at) in
      ap (λ (xs : List X). xs ++ flat_map f es) (same 0 e refl) ∙ ap (λ (xs : List X). g e ++ xs) rest

-- to flatten twice is to flatten what is flattened
pub flattened_twice : {K E X : Type 0} (t : E → List X) (f : K → List E) (ks : List K) → flat_map t (flat_map f ks) ≡ flat_map (λ k. flat_map t (f k)) ks
flattened_twice t f [] = refl
flattened_twice t f (k ∷ ks) = flat_map-append t (f k) (flat_map f ks) ∙ ap (λ xs. flat_map t (f k) ++ xs) (flattened_twice t f ks)

-- an element within a list stands at its place
pub stands : {X : Type 0} (xs : List X) (k : ℕ) → k < length xs → (x : X) × (slice_get xs k ≡ Some x)
stands xs k low = elim (slice_get_cases xs k).1 [
  | inl here ↦ (here.0, here.2)
  | inr past ↦ absurd (omega arith)
]

-- what a client has sent stands alone among what all have sent
module _ {X E : Type 0} (from : X → ℕ) (part : E → List X) where
  none_kept : (k : ℕ) (xs : List X) → All (λ x. from x ≡ k → ⊥) xs → filter (λ x. from x == k) xs ≡ []
  none_kept k [] none = refl
  none_kept k (x ∷ xs) none =
      rw (ne_eqb (from x) k (All-head (λ (y : X). from y ≡ k → ⊥) x xs none)) (none_kept k xs (All-tail (λ (y : X). from y ≡ k → ⊥) x xs none))

  all_kept : (k : ℕ) (xs : List X) → All (λ x. from x ≡ k) xs → filter (λ x. from x == k) xs ≡ xs
  all_kept k [] all = refl
  all_kept k (x ∷ xs) all =
      rw (eq-eqb (from x) k (All-head (λ (y : X). from y ≡ k) x xs all)) (ap (λ (ys : List X). x ∷ ys) (all_kept k xs (All-tail (λ (y : X). from y ≡ k) x xs all)))

  none_of_later : (n k : ℕ) (es : List E) → k < n → ((j : ℕ) (e : E) → slice_get es j ≡ Some e → All (λ x. from x ≡ n + j) (part e)) → filter (λ x. from x == k) (flat_map part es) ≡ []
  none_of_later n k [] low own = refl
  none_of_later n k (e ∷ es) low own =
      let here = none_kept k (part e) (All-weaker (λ (x : X). from x ≡ n + 0) (λ (x : X). from x ≡ k → ⊥) (λ x is same. omega arith) (part e) (own 0 e refl)) in
      let rest = none_of_later (n + 1) k es (omega arith) (λ j d at. All-weaker (λ (x : X). from x ≡ n + suc j) (λ (x : X). from x ≡ (n + 1) + j) (λ x is. omega arith) (part d) (own (suc j) d at)) in
      filter-append (λ (x : X). from x == k) (part e) (flat_map part es) ∙ (ap (λ (ys : List X). ys ++ filter (λ (x : X). from x == k) (flat_map part es)) here ∙ rest)

  pub own_part_from : (n k : ℕ) (es : List E) (d : E) → ((j : ℕ) (e : E) → slice_get es j ≡ Some e → All (λ x. from x ≡ n + j) (part e)) → slice_get es k ≡ Some d
      → filter (λ x. from x == n + k) (flat_map part es) ≡ part d
  own_part_from n k [] d own at = absurd (let low = slice_get_within [] k d at in omega arith)
  own_part_from n zero (e ∷ es) d own at =
      let is : e ≡ d = cc in
      let here = all_kept (n + 0) (part e) (own 0 e refl) in
      let rest = none_of_later (n + 1) (n + 0) es (omega arith) (λ j c there. All-weaker (λ (x : X). from x ≡ n + suc j) (λ (x : X). from x ≡ (n + 1) + j) (λ x same. omega arith) (part c) (own (suc j) c there)) in
      filter-append (λ (x : X). from x == n + 0) (part e) (flat_map part es) ∙ (ap (λ (ys : List X). ys ++ filter (λ (x : X). from x == n + 0) (flat_map part es)) here
      ∙ (ap (λ (ys : List X). part e ++ ys) rest ∙ (append-nil (part e) ∙ ap part is)))
  own_part_from n (suc k) (e ∷ es) d own at =
      let here = none_kept (n + suc k) (part e) (All-weaker (λ (x : X). from x ≡ n + 0) (λ (x : X). from x ≡ n + suc k → ⊥) (λ x is same. omega arith) (part e) (own 0 e refl)) in
      let rest = own_part_from (n + 1) k es d (λ j c there. All-weaker (λ (x : X). from x ≡ n + suc j) (λ (x : X). from x ≡ (n + 1) + j) (λ x same. omega arith) (part c) (own (suc j) c there)) at in
      let place : n + suc k ≡ (n + 1) + k = omega arith in
      filter-append (λ (x : X). from x == n + suc k) (part e) (flat_map part es) ∙ (ap (λ (ys : List X). ys ++ filter (λ (x : X). from x == n + suc k) (flat_map part es)) here
      ∙ (ap (λ (m : ℕ). filter (λ (x : X). from x == m) (flat_map part es)) place ∙ rest))

  -- of what all have sent, that of one is its own part
  pub own_part : (k : ℕ) (es : List E) (d : E) → ((j : ℕ) (e : E) → slice_get es j ≡ Some e → All (λ x. from x ≡ j) (part e)) → slice_get es k ≡ Some d
      → filter (λ x. from x == k) (flat_map part es) ≡ part d
  own_part k es d own at =
      ap (λ (m : ℕ). filter (λ (x : X). from x == m) (flat_map part es)) (let z : k ≡ 0 + k = omega arith in z)
      ∙ own_part_from 0 k es d (λ j e there. All-weaker (λ (x : X). from x ≡ j) (λ (x : X). from x ≡ 0 + j) (λ x is. omega arith) (part e) (own j e there)) at

-- a number that stands in a list stands there once or more
stands_once : (x : ℕ) (ys : List ℕ) (k : ℕ) → slice_get ys k ≡ Some x → 0 < times x ys
stands_once x [] k at = absurd (let low = slice_get_within [] k x at in omega arith)
stands_once x (y ∷ ys) zero at = let is : y ≡ x = cc in rw (times_cons x y ys, eq-eqb y x is) (omega arith)
stands_once x (y ∷ ys) (suc k) at = let more = stands_once x ys k at in let all = times_cons x y ys in grind (arith, nat_tests)

-- numbers none of which is there twice have no repeats
pub once_apart : (xs : List ℕ) → HasNoneTwice xs → IsWithoutRepeats xs
once_apart [] once i j x a b = absurd (let low = slice_get_within [] i x a in omega arith)
once_apart (y ∷ ys) once zero zero x a b = refl
once_apart (y ∷ ys) once zero (suc j) x a b =
    absurd (let is : y ≡ x = cc in let more = stands_once x ys j b in let most = once x in let all = times_cons x y ys in let here = eq-eqb y x is in grind (arith, nat_tests))
once_apart (y ∷ ys) once (suc i) zero x a b =
    absurd (let is : y ≡ x = cc in let more = stands_once x ys i a in let most = once x in let all = times_cons x y ys in let here = eq-eqb y x is in grind (arith, nat_tests))
once_apart (y ∷ ys) once (suc i) (suc j) x a b = ap suc (once_apart ys (λ z. let most = once z in let all = times_cons z y ys in grind (arith, nat_tests)) i j x a b)

-- what a call sends is of its client
sent_of : (b : Bool) (client : ℕ) (e : Entry) → e.client ≡ client → All (λ q. q.client ≡ client) (request_of e ∷ (if b then repair_of e ∷ [] else []))
sent_of true client e is =
    All-cons (λ (q : Request). q.client ≡ client) (request_of e) (repair_of e ∷ []) is (All-cons (λ (q : Request). q.client ≡ client) (repair_of e) [] is (All-nil (λ (q : Request). q.client ≡ client)))
sent_of false client e is = All-cons (λ (q : Request). q.client ≡ client) (request_of e) [] is (All-nil (λ (q : Request). q.client ≡ client))

requests_own : (client replica : ℕ) (es : List Entry) → All (λ e. e.client ≡ client) es → All (λ q. q.client ≡ client) (flat_map (sent_to replica) es)
requests_own client replica [] own = All-nil (λ (q : Request). q.client ≡ client)
requests_own client replica (e ∷ es) own =
    All-append (λ (q : Request). q.client ≡ client) (sent_to replica e) (flat_map (sent_to replica) es)
    (sent_of (repairs e replica) client e (All-head (λ (d : Entry). d.client ≡ client) e es own))
    (requests_own client replica es (All-tail (λ (d : Entry). d.client ≡ client) e es own))

-- what a client has sent is of it
notes_own : (client replica : ℕ) (es : List Entry) → All (λ e. e.client ≡ client) es → All (λ note. sender_of note ≡ client) (notes_to replica es ++ Done client ∷ [])
notes_own client replica es own =
    All-append (λ (note : Note). sender_of note ≡ client) (notes_to replica es) (Done client ∷ [])
    (All-map (λ (note : Note). sender_of note ≡ client) Ask (flat_map (sent_to replica) es) (requests_own client replica es own))
    (All-cons (λ (note : Note). sender_of note ≡ client) (Done client) [] refl (All-nil (λ (note : Note). sender_of note ≡ client)))

module _ (s : Settings) (plan : Plan) (places : ℕ) (calls : ℕ → List Entry) (clients : List ClientEnd) (replicas : List BenchEnd) (drawn : List ℕ)
    (whole : IsWhole s plan) (room : s.clients * (2 * s.calls) ≤ places) (ends : AreEnds s plan places calls clients replicas drawn) where
  client_there : (c : ℕ) → c < s.clients → (d : ClientEnd) × (slice_get clients c ≡ Some d)
  client_there c low = stands clients c (let many = ends.as_many_clients in omega arith)

  replica_there : (r : ℕ) → r < s.replicas → (e : BenchEnd) × (slice_get replicas r ≡ Some e)
  replica_there r low = stands replicas r (let many = ends.as_many_replicas in omega arith)

  -- the journal of a replica is the one of its end
  journal_is : (r : ℕ) (e : BenchEnd) → slice_get replicas r ≡ Some e → journal_of (journals_of replicas) r ≡ e.replica.journal
  journal_is r e at =
      get_or-map (λ (x : BenchEnd). x.replica.journal) replicas r e [] (slice_get_within replicas r e at)
      ∙ ap (λ (x : BenchEnd). x.replica.journal) (get_or_from_slice_get replicas r e e at)

  -- all requests of a client have come to a replica
  came_all : (r c : ℕ) (e : BenchEnd) (d : ClientEnd) → r < s.replicas → c < s.clients → slice_get replicas r ≡ Some e → slice_get clients c ≡ Some d
      → filter (λ q. q.client == c) (asked_in e.taker.taken) ≡ flat_map (sent_to r) (calls c)
  came_all r c e d low few there here =
      let own = own_part sender_of (sent_by r) c clients d
      (λ j x at. All-same (λ (note : Note). sender_of note ≡ j) (sent_by r x) (notes_to r (calls j) ++ Done j ∷ []) ((ends.client j x at).sent r low) (notes_own j r (calls j) (ends.client j x at).share.calls.client_is)) here in
      let sent = own ∙ (ends.client c d here).sent r low in
      all_came c (flat_map (sent_to r) (calls c)) e.taker.taken
      (subst (λ (notes : List Note). IsPrefix (letters_of sender_of c e.taker.taken) notes) sent ((ends.notes r e there).taken c few))
      ((ends.replica r e there).done c few)

  -- the tickets of the parts are those that were drawn
  pub tickets_are : tickets_of (all_calls s calls) (journals_of replicas) ≡ drawn
  tickets_are =
      let first = by_places (λ (e : ClientEnd). e.seat.drawn) (λ (k : ℕ). tickets_of_calls (calls k)) 0 clients
      (λ k e at. (ends.client k e at).drawn ∙ ap (λ (n : ℕ). tickets_of_calls (calls n)) (let z : k ≡ 0 + k = omega arith in z)) in
      let all = flattened_twice (λ (e : Entry). e.start ∷ e.finish ∷ []) calls (range_with_len 0 s.clients) in
      let many = ap (λ (n : ℕ). flat_map (λ (k : ℕ). tickets_of_calls (calls k)) (range_with_len 0 n)) ends.as_many_clients in
      let second = same_made (λ (e : BenchEnd). e.seat.drawn) (λ (e : BenchEnd). serves_of e.replica.journal) replicas (λ k e at. (ends.replica k e at).drawn) in
      let journals = flat_map-map serves_of (λ (e : BenchEnd). e.replica.journal) replicas in
      ap (λ (xs : List ℕ). xs ++ flat_map serves_of (journals_of replicas)) (all ∙ sym (first ∙ many))
      ∙ (ap (λ (xs : List ℕ). flat_map (λ (e : ClientEnd). e.seat.drawn) clients ++ xs) (journals ∙ sym second) ∙ sym ends.drawn_is)

  pub ends_are_parts : AreParts s plan places calls (λ c. taken_in (slice_get clients c)) (λ r. came_in (slice_get replicas r)) (journals_of replicas)
  ends_are_parts = record {
    keys = λ client k call at. (whole.each client k call at).key;
    few = λ client low. let same = whole.calls client low in omega arith;
    room = room;
    clients = λ client low. let (d, at) = client_there client low in rw at (ends.client client d at).share;
    as_many = length-map replicas (λ (e : BenchEnd). e.replica.journal) ∙ ends.as_many_replicas;
    replicas = λ r low. let (e, at) = replica_there r low in rw (at, journal_is r e at) record {
      clients = asked_clients s.clients e.taker.taken (ends.notes r e at).known;
      journal = (ends.replica r e at).journal;
      served = (ends.replica r e at).served;
    };
    joined = λ r c low few. let (e, there) = replica_there r low in let (d, here) = client_there c few in rw (there, here, journal_is r e there) record {
      requests = came_all r c e d low few there here;
      replies = ends.replies r c e d there here;
    };
    once = rw tickets_are (once_apart drawn ends.once);
  }
