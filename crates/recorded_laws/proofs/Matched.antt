-- The calls of a recorded run: each value is written once, and reads return what was written before they finished.
use Rattle.std.proofs.Common.{◌≡◌, ℕ, suc, ◌+◌, ◌*◌, ◌<◌, ◌≤◌, List, map, ap, subst, inl, inr, arith, suc-mul}
use Rattle.std.specs.Prelude.{All, Contains}
use Rattle.std.proofs.lemmas.Bool.{cases_order}
use Rattle.std.proofs.lemmas.Nat.{mul-le}
use Rattle.stale_model.specs.declared.Kind.TheVariants.{Read, Write}
use Rattle.stale_model.specs.declared.store.Settings.{Settings}
use Rattle.stale_model.specs.declared.store.Plan.{Plan}
use Rattle.stale_model.specs.declared.store.JournalEntry.{JournalEntry}
use Rattle.stale_model.specs.declared.store.Entry.{Entry}
use Rattle.stale_model.specs.Settings.{AreSettings}
use Rattle.stale_model.specs.Calls.{taken_by, freshest}
use Rattle.stale_model.specs.Orders.{StandsAt}
use Rattle.stale_model.specs.RecordedRuns.{entries_of, IsRecordedRun}
use Rattle.stale_model.specs.Texts.{line_of}
use Rattle.stale_model.proofs.Places.{contains_at, same_at, stands_mapped}
use Rattle.stale_model.proofs.Sorted.{rising_no_repeats}
use Rattle.run_laws.specs.Laws.{IsInitialOrWritten}
use Rattle.history_csv.specs.Written.{IsReadable}
use Rattle.quorum_client.specs.Plans.{IsWhole}
use Rattle.recorded_laws.proofs.Readable.{IsPlanned, planned_of, read_value}

-- calls that may stand in a history: no two write one value, and a read returns the initial value, or one whose write on its key started before the read finished
pub record AreMatched (entries : List Entry) : Type 0 where
  pub readable : All (λ e. IsReadable (line_of e)) entries
  pub apart : (i j : ℕ) (a b : Entry) → StandsAt entries i a → StandsAt entries j b → a.kind ≡ Write → b.kind ≡ Write → a.value ≡ b.value → i ≡ j
  pub returned : (e : Entry) → Contains entries e → e.kind ≡ Read → (stamp : ℕ) × IsInitialOrWritten entries e.key stamp e.value e.finish

-- with fewer calls than a client makes before it, a call of one client has another number than one of a later client
same_client : (a b i j calls : ℕ) → i < calls → j < calls → a * calls + (i + 1) ≡ b * calls + (j + 1) → a < b → ⊥
same_client a b i j calls low high e less =
    let more : suc a * calls ≤ b * calls = mul-le (suc a) calls b calls (omega arith) (omega arith) in
    let one_more = suc-mul a calls in
    omega arith

module _ (s : Settings) (plan : Plan) (entries : List Entry) (journals : List (List JournalEntry)) (limits : AreSettings s) (whole : IsWhole s plan)
    (run : IsRecordedRun s plan entries journals) where
  planned : (e : Entry) → Contains entries e → IsPlanned s entries e
  planned = planned_of s plan entries journals limits whole run

  -- writes of one value are of one client
  one_client : (a b : Entry) (p : IsPlanned s entries a) (q : IsPlanned s entries b) → a.kind ≡ Write → b.kind ≡ Write → a.value ≡ b.value → a.client ≡ b.client
  one_client a b p q wa wb e =
      let first = p.written wa in
      let second = q.written wb in
      elim (cases_order a.client b.client) [
        | inl same ↦ same
        | inr less ↦ elim less [
          | inl l ↦ absurd (same_client a.client b.client p.place q.place s.calls p.low q.low (omega arith) l)
          | inr l ↦ absurd (same_client b.client a.client q.place p.place s.calls q.low p.low (omega arith) l)
        ]
      ]

  -- and of one call
  one_call : (a b : Entry) → Contains entries a → Contains entries b → a.kind ≡ Write → b.kind ≡ Write → a.value ≡ b.value → a ≡ b
  one_call a b ca cb wa wb e =
      let p = planned a ca in
      let q = planned b cb in
      let first = p.written wa in
      let second = q.written wb in
      let client = one_client a b p q wa wb e in
      let before = ap (λ (c : ℕ). c * s.calls) client in
      let places : p.place ≡ q.place = omega arith in
      let mine = subst (λ (c : ℕ). StandsAt (entries_of c entries) p.place a) client p.at in
      same_at (entries_of b.client entries) q.place a b (subst (λ (i : ℕ). StandsAt (entries_of b.client entries) i a) places mine) q.at

  -- no call stands at two places
  one_place : (i j : ℕ) (a b : Entry) → StandsAt entries i a → StandsAt entries j b → a ≡ b → i ≡ j
  one_place i j a b at_i at_j same =
      rising_no_repeats (map (λ (e : Entry). e.start) entries) run.timed.rising i j b.start
      (subst (λ (x : Entry). StandsAt (map (λ (e : Entry). e.start) entries) i x.start) same (stands_mapped (λ (e : Entry). e.start) entries i a at_i))
      (stands_mapped (λ (e : Entry). e.start) entries j b at_j)

  pub run_matched : All (λ e. IsReadable (line_of e)) entries → AreMatched entries
  run_matched readable = record {
    readable = readable;
    apart = λ i j a b at_i at_j wa wb e. one_place i j a b at_i at_j (one_call a b (contains_at entries i a at_i) (contains_at entries j b at_j) wa wb e);
    returned = λ e c r. ((freshest (taken_by e)).stamp, read_value s plan entries journals limits whole run e c r);
  }
