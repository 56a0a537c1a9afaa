-- A replica serves all requests of a run.
use Rattle.std.proofs.Common.{◌≡◌, ℕ, ◌+◌, ◌<◌, ◌≤◌, Bool, true, false, not, cond, ◌&&◌, ◌||◌, nat_lt, List, [], ◌∷◌, ◌++◌, length, refl, sym, ◌∙◌, ap, subst, arith, append_assoc, length-append, eq-eqb}
use Rattle.std.specs.Prelude.{◌==◌, All}
use Rattle.std.proofs.lemmas.Bool.Decides.{nat_tests}
use Rattle.std.proofs.lemmas.List.{append-nil}
use Rattle.std.proofs.lemmas.List.Elements.{filter-append, All-head, All-tail}
use Rattle.stale_model.specs.declared.store.Settings.{Settings}
use Rattle.stale_model.specs.declared.store.Request.{Request}
use Rattle.stale_model.specs.Journals.{is_repair}
use Rattle.stale_model.specs.Serving.{answered_to, admits, served_after}
use Rattle.run_laws.specs.Laws.{ReplicasDropNone}

-- a read or a write counts for its client
counts : (b : Bool) (q : Request) (qs : List Request) → is_repair q.ask ≡ b → length (answered_to q.client (q ∷ qs)) ≡ cond b 0 1 + length (answered_to q.client qs)
counts true q qs e = rw (eq-eqb q.client q.client refl, e) (omega arith)
counts false q qs e = rw (eq-eqb q.client q.client refl, e) (omega arith)

-- a request that counts leaves room for itself
owed : (b : Bool) (n calls rest : ℕ) → n + (cond b 0 1 + rest) ≤ calls → (b || nat_lt n calls) ≡ true
owed true n calls rest few = refl
owed false n calls rest few = grind (arith, nat_tests)

all_four : (a b c d : Bool) → a ≡ true → b ≡ true → c ≡ true → d ≡ true → (a && b && c && d) ≡ true
all_four a b c d e f g h = rw (e, f, g, h) refl

module _ (settings : Settings) (places : ℕ) where
  -- the first request of those to come is served
  admitted : (served : List Request) (q : Request) (qs : List Request) → q.client < settings.clients → q.key < settings.keys → length (served ++ q ∷ qs) ≤ places
      → length (answered_to q.client (served ++ q ∷ qs)) ≤ settings.calls → admits settings places served q ≡ true
  admitted served q qs client key room few =
      let long = length-append served (q ∷ qs) in
      let parts = ap (λ (l : List Request). length l) (filter-append (λ (r : Request). (r.client == q.client) && not (is_repair r.ask)) served (q ∷ qs)) in
      let both = length-append (answered_to q.client served) (answered_to q.client (q ∷ qs)) in
      let here = counts (is_repair q.ask) q qs refl in
      let place : length served < places = omega arith in
      all_four (nat_lt q.client settings.clients) (nat_lt q.key settings.keys) (nat_lt (length served) places) (is_repair q.ask || nat_lt (length (answered_to q.client served)) settings.calls)
      (grind (arith, nat_tests)) (grind (arith, nat_tests)) (grind (arith, nat_tests))
      (owed (is_repair q.ask) (length (answered_to q.client served)) settings.calls (length (answered_to q.client qs)) (omega arith))

  all_served : (served qs : List Request) → All (λ q. q.client < settings.clients) qs → All (λ q. q.key < settings.keys) qs → length (served ++ qs) ≤ places
      → ((client : ℕ) → length (answered_to client (served ++ qs)) ≤ settings.calls) → served_after settings places served qs ≡ served ++ qs
  all_served served [] clients keys room calls = sym (append-nil served)
  all_served served (q ∷ qs) clients keys room calls =
      let client = All-head (λ (r : Request). r.client < settings.clients) q qs clients in
      let key = All-head (λ (r : Request). r.key < settings.keys) q qs keys in
      let next = append_assoc served (q ∷ []) qs in
      ap (λ (b : Bool). served_after settings places (cond b (served ++ q ∷ []) served) qs) (admitted served q qs client key room (calls q.client))
      ∙ (all_served (served ++ q ∷ []) qs (All-tail (λ (r : Request). r.client < settings.clients) q qs clients) (All-tail (λ (r : Request). r.key < settings.keys) q qs keys)
      (subst (λ (l : List Request). length l ≤ places) (sym next) room) (λ c. subst (λ (l : List Request). length (answered_to c l) ≤ settings.calls) (sym next) (calls c)) ∙ next)

pub replicas_drop_none : ReplicasDropNone
replicas_drop_none settings places qs run = all_served settings places [] qs run.clients run.keys run.room run.calls
