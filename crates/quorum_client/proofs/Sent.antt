-- What one call sends on each route, and what may be sent after it.
use Rattle.std.proofs.Common.{◌≡◌, ℕ, zero, suc, ◌+◌, ◌-◌, ◌<◌, ◌≤◌, Bool, true, false, if◌then◌else◌, List, [], ◌∷◌, ◌++◌, length, map, slice_index_or, All, refl, ap, sym, ◌∙◌, subst, arith, append_assoc}
use Rattle.std.proofs.lemmas.List.{length-map, get_or-map}
use Rattle.stale_model.specs.declared.Kind.TheVariants.{Read, Write}
use Rattle.stale_model.specs.declared.store.Request.{Request}
use Rattle.stale_model.specs.declared.store.Entry.{Entry}
use Rattle.stale_model.specs.Calls.{taken_by, freshest, is_stale, request_of, repair_of, sent_to}
use Rattle.quorum_client.specs.declared.letters.Note.{Note}
use Rattle.quorum_client.specs.declared.letters.Note.TheVariants.{Ask}
use Rattle.quorum_client.specs.declared.letters.Route.{Route}
use Rattle.quorum_client.specs.Routes.{IsReadyRoute, with_sent, repaired, IsSentOn, IsRepairedOn}

-- one note and then another
sent_twice : (x y : Note) (r : Route) → with_sent (y ∷ []) (with_sent (x ∷ []) r) ≡ with_sent (x ∷ y ∷ []) r
sent_twice x y r =
    let notes : (r.pass.sent ++ x ∷ []) ++ y ∷ [] ≡ r.pass.sent ++ x ∷ y ∷ [] = append_assoc r.pass.sent (x ∷ []) (y ∷ []) in
    let budget : (r.pass.budget - 1) - 1 ≡ r.pass.budget - 2 = omega arith in
    rw (notes, budget) refl

-- a request, and then a repair if the test says so
sent_by_choice : (b : Bool) (q p : Request) (r : Route)
    → (if b then with_sent (Ask p ∷ []) (with_sent (Ask q ∷ []) r) else with_sent (Ask q ∷ []) r) ≡ with_sent (map Ask (q ∷ (if b then p ∷ [] else []))) r
sent_by_choice true q p r = sent_twice (Ask q) (Ask p) r
sent_by_choice false q p r = refl

-- a write sends its request alone
sent_by_write : (e : Entry) (k : ℕ) (r : Route) → e.kind ≡ Write → with_sent (Ask (request_of e) ∷ []) r ≡ with_sent (map Ask (sent_to k e)) r
sent_by_write e k r write = rw write refl

-- a read sends its request, and then the repair where the reply is older
sent_by_read : (e : Entry) (value k : ℕ) (r : Route) → e.kind ≡ Read
    → repaired (record e { value = value }) k (with_sent (Ask (request_of e) ∷ []) r) ≡ with_sent (map Ask (sent_to k (record e { value = value }))) r
sent_by_read e value k r read = rw read (sent_by_choice (is_stale (freshest (taken_by e)).stamp k (taken_by e)) _ (repair_of e) r)

-- the routes after a write
pub sent_after_write : (e : Entry) (before after : List Route) → e.kind ≡ Write
    → after ≡ map (with_sent (Ask (request_of e) ∷ [])) before → IsSentOn e before after
sent_after_write e before after write is = record {
  as_many = ap length is ∙ length-map before (with_sent (Ask (request_of e) ∷ []));
  each = λ k r inside.
      ap (λ (rs : List Route). slice_index_or rs k r) is
      ∙ (get_or-map (with_sent (Ask (request_of e) ∷ [])) before k r r inside ∙ sent_by_write e k (slice_index_or before k r) write);
}

-- the routes after a read
pub sent_after_read : (e : Entry) (value : ℕ) (before asked after : List Route) → e.kind ≡ Read → asked ≡ map (with_sent (Ask (request_of e) ∷ [])) before
    → IsRepairedOn (record e { value = value }) asked after → IsSentOn (record e { value = value }) before after
sent_after_read e value before asked after read is rep =
    let many : length asked ≡ length before = ap length is ∙ length-map before (with_sent (Ask (request_of e) ∷ [])) in
    record {
      as_many = rep.as_many ∙ many;
      each = λ k r inside.
          rep.each k r (omega (arith, many, inside))
          ∙ (ap (λ (rs : List Route). repaired (record e { value = value }) k (slice_index_or rs k r)) is
          ∙ (ap (λ (x : Route). repaired (record e { value = value }) k x) (get_or-map (with_sent (Ask (request_of e) ∷ [])) before k r r inside)
          ∙ sent_by_read e value k (slice_index_or before k r) read));
    }

one_sent : (client many : ℕ) (note : Note) (r : Route) → IsReadyRoute client (many + 1) r → IsReadyRoute client many (with_sent (note ∷ []) r)
one_sent client many note r h = (h.0, h.1, omega (arith, h.2))

one_fewer : (client few many : ℕ) (r : Route) → few ≤ many → IsReadyRoute client many r → IsReadyRoute client few r
one_fewer client few many r le h = (h.0, h.1, omega (arith, h.2))

-- routes that may send many notes may send fewer
pub all_fewer : (client few many : ℕ) (rs : List Route) → few ≤ many → All (λ (r : Route). IsReadyRoute client many r) rs
    → All (λ (r : Route). IsReadyRoute client few r) rs
all_fewer client few many rs le h k r inside = one_fewer client few many (slice_index_or rs k r) le (h k r inside)

-- after one note they may send one fewer
pub all_sent : (client many : ℕ) (note : Note) (rs : List Route) → All (λ (r : Route). IsReadyRoute client (many + 1) r) rs
    → All (λ (r : Route). IsReadyRoute client many r) (map (with_sent (note ∷ [])) rs)
all_sent client many note [] h k r inside = absurd (omega arith)
all_sent client many note (x ∷ rs) h zero r inside = one_sent client many note x (h 0 x (omega arith))
all_sent client many note (x ∷ rs) h (suc k) r inside = all_sent client many note rs (λ j d less. h (suc j) d (omega arith)) k r (omega arith)

ready_by_choice : (b : Bool) (client many : ℕ) (note : Note) (r : Route) → IsReadyRoute client (many + 1) r
    → IsReadyRoute client many (if b then with_sent (note ∷ []) r else r)
ready_by_choice true client many note r h = one_sent client many note r h
ready_by_choice false client many note r h = one_fewer client many (many + 1) r (omega arith) h

-- after repairs they may send one fewer
pub all_repaired : (client many : ℕ) (e : Entry) (before after : List Route) → IsRepairedOn e before after
    → All (λ (r : Route). IsReadyRoute client (many + 1) r) before
    → All (λ (r : Route). IsReadyRoute client many r) after
all_repaired client many e before after rep h k r inside =
    let less : k < length before = omega (arith, rep.as_many) in
    let stale = is_stale (freshest (taken_by e)).stamp k (taken_by e) in
    subst (λ (x : Route). IsReadyRoute client many x) (sym (rep.each k r less)) (ready_by_choice stale client many _ (slice_index_or before k r) (h k r less))
