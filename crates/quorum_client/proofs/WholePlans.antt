-- The plan of settings is whole.
use Rattle.std.proofs.Common.{◌≡◌, ℕ, ◌+◌, ◌*◌, ◌%◌, ◌<◌, ◌≤◌, Bool, true, false, if◌then◌else◌, List, [], length, Some, None, slice_get, sym, ap, subst, inl, inr, refl, arith, ◌∙◌}
use Rattle.std.proofs.lemmas.Bool.{cases_lt}
use Rattle.std.proofs.lemmas.List.{get_or_past}
use Rattle.std.proofs.lemmas.List.FromFn.{length-map-range_with_len, get_or-map-range_with_len}
use Rattle.std.proofs.lemmas.Option.{slice_get_within, get_or_from_slice_get}
use Rattle.stale_model.specs.declared.Kind.TheVariants.{Read, Write}
use Rattle.stale_model.specs.declared.store.Settings.{Settings}
use Rattle.stale_model.specs.declared.store.PlanCall.{PlanCall}
use Rattle.stale_model.specs.Settings.{AreSettings, calls_of}
use Rattle.seeded_words.specs.Words.{word}
use Rattle.quorum_client.specs.Plans.{planned_call, planned_calls, plan_for, IsCallOf, IsWhole}

-- the calls of a client are those of the plan
calls_of-plan_for : (s : Settings) (client : ℕ) → client < s.clients → calls_of (plan_for s) client ≡ planned_calls s client
calls_of-plan_for s client there = get_or-map-range_with_len (planned_calls s) 0 s.clients client client [] there (omega arith)

-- past the last client there are none
calls_of-past : (s : Settings) (client : ℕ) → s.clients ≤ client → calls_of (plan_for s) client ≡ []
calls_of-past s client past =
    let many : length (plan_for s).clients ≡ s.clients = length-map-range_with_len (planned_calls s) 0 s.clients in
    get_or_past (plan_for s).clients client [] (omega arith)

-- a write by its number, or a read
numbered-either : (s : Settings) (client seq key number : ℕ) (b : Bool) → key < s.keys → number ≡ client * s.calls + seq
    → IsCallOf s client seq (if b then record { kind = Write; key = key; value = number } else record { kind = Read; key = key; value = 0 })
numbered-either s client seq key number true there is = record { key = there; written = λ _. is; read = λ e. cc }
numbered-either s client seq key number false there is = record { key = there; written = λ e. cc; read = λ _. refl }

planned-is_call_of : (s : Settings) (client k : ℕ) → 1 ≤ s.keys → IsCallOf s client (k + 1) (planned_call s (client * s.calls + k))
planned-is_call_of s client k some =
    let key = word s.seed (2 * (client * s.calls + k) + 1) in
    let there : key % s.keys < s.keys = omega arith in
    numbered-either s client (k + 1) (key % s.keys) (client * s.calls + k + 1) _ there (omega arith)

each-planned : (s : Settings) (client k : ℕ) (call : PlanCall) → 1 ≤ s.keys → slice_get (planned_calls s client) k ≡ Some call
    → IsCallOf s client (k + 1) call
each-planned s client k call some stands =
    let at : ℕ → PlanCall = λ k. planned_call s (client * s.calls + k) in
    let many : length (planned_calls s client) ≡ s.calls = length-map-range_with_len at 0 s.calls in
    let within = slice_get_within (planned_calls s client) k call stands in
    let read = get_or_from_slice_get (planned_calls s client) k call call stands in
    let is : at k ≡ call = sym (get_or-map-range_with_len at 0 s.calls k k call (omega arith) (omega arith)) ∙ read in
    subst (IsCallOf s client (k + 1)) is (planned-is_call_of s client k some)

each-call : (s : Settings) (client k : ℕ) (call : PlanCall) → 1 ≤ s.keys → slice_get (calls_of (plan_for s) client) k ≡ Some call
    → IsCallOf s client (k + 1) call
each-call s client k call some stands =
    let standing : List PlanCall → Type 0 = λ calls. slice_get calls k ≡ Some call in elim (cases_lt client s.clients) [
      | inl there ↦ each-planned s client k call some (subst standing (calls_of-plan_for s client there) stands)
      | inr past ↦ let none : None ≡ Some call = subst standing (calls_of-past s client past) stands in cc
    ]

-- the plan of settings is whole
pub whole-plan_for : (s : Settings) → AreSettings s → IsWhole s (plan_for s)
whole-plan_for s are = record {
  clients = length-map-range_with_len (planned_calls s) 0 s.clients;
  calls = λ client there. ap length (calls_of-plan_for s client there)
      ∙ length-map-range_with_len (λ k. planned_call s (client * s.calls + k)) 0 s.calls;
  each = λ client k call. each-call s client k call are.keys.0;
}
