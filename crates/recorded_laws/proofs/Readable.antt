-- The calls of a recorded run may stand in a history.
use Rattle.std.proofs.Common.{◌≡◌, ℕ, suc, ◌+◌, ◌*◌, ◌<◌, ◌≤◌, List, [], ◌∷◌, length, refl, sym, ◌∙◌, inl, inr, arith, suc-mul, eq-eqb}
use Rattle.std.specs.Prelude.{◌==◌, All, Contains, flat_map}
use Rattle.std.proofs.lemmas.List.Elements.{All-contains, Contains-append_left}
use Rattle.std.proofs.lemmas.Nat.{mul-le}
use Rattle.std.proofs.lemmas.Option.{slice_get_within}
use Rattle.stale_model.specs.declared.Kind.TheVariants.{Read, Write}
use Rattle.stale_model.specs.declared.store.Settings.{Settings}
use Rattle.stale_model.specs.declared.store.Plan.{Plan}
use Rattle.stale_model.specs.declared.store.JournalEntry.{JournalEntry}
use Rattle.stale_model.specs.declared.store.Entry.{Entry}
use Rattle.stale_model.specs.Settings.{AreSettings, calls_of}
use Rattle.stale_model.specs.Calls.{taken_by, freshest}
use Rattle.stale_model.specs.Orders.{StandsAt}
use Rattle.stale_model.specs.RecordedRuns.{entries_of, tickets_of, IsRecordedRun}
use Rattle.stale_model.specs.Texts.{line_of}
use Rattle.stale_model.proofs.Members.{contains_first, kept_from}
use Rattle.stale_model.proofs.Places.{place_of, something_at}
use Rattle.stale_model.proofs.ReadsAndWrites.{kinds}
use Rattle.stale_model.proofs.Sorted.{contains_later}
use Rattle.run_laws.specs.Laws.{IsInitialOrWritten}
use Rattle.run_laws.proofs.Counted.{all_there, flattened_from, not_more}
use Rattle.run_laws.proofs.Stamps.{reads_return_earlier_writes}
use Rattle.history_csv.specs.Written.{IsReadable}
use Rattle.quorum_client.specs.Plans.{IsWhole}
use Rattle.recorded_laws.specs.Laws.{IsTick, RunsAreReadable}

-- a call of a run: its place among those of its client, and what the plan says of it
pub record IsPlanned (s : Settings) (entries : List Entry) (e : Entry) : Type 0 where
  pub place : ℕ
  pub at : StandsAt (entries_of e.client entries) place e
  pub low : place < s.calls
  pub client : e.client < s.clients
  pub key : e.key < s.keys
  pub written : e.kind ≡ Write → e.value ≡ e.client * s.calls + (place + 1)

module _ (s : Settings) (plan : Plan) (entries : List Entry) (journals : List (List JournalEntry)) (limits : AreSettings s) (whole : IsWhole s plan)
    (run : IsRecordedRun s plan entries journals) where
  pub planned_of : (e : Entry) → Contains entries e → IsPlanned s entries e
  planned_of e c =
      let client = All-contains (λ (x : Entry). x.client < s.clients) entries e run.planned.clients c in
      let mine = entries_of e.client entries in
      let (k, at) = place_of mine e (kept_from (λ (x : Entry). x.client == e.client) entries e c (eq-eqb e.client e.client refl)) in
      let within = slice_get_within mine k e at in
      let as_many = run.planned.as_many e.client client in
      let calls = whole.calls e.client client in
      let (call, plan_at) = something_at (calls_of plan e.client) k (omega arith) in
      let is = run.planned.each e.client k e call at plan_at in
      let of = whole.each e.client k call plan_at in
      let key = of.key in
      let same_key = is.key in
      record {
        place = k;
        at = at;
        low = omega arith;
        client = client;
        key = omega arith;
        written = λ w. let kind = sym is.kind ∙ w in is.value kind ∙ of.written kind;
      }

  -- the value of a write
  pub write_value : (e : Entry) → Contains entries e → e.kind ≡ Write → (1 ≤ e.value) × (e.value ≤ 100000)
  write_value e c w =
      let p = planned_of e c in
      let value = p.written w in
      let low = p.low in
      let one_more = suc-mul e.client s.calls in
      let most : suc e.client * s.calls ≤ s.clients * s.calls = mul-le (suc e.client) s.calls s.clients s.calls (let client = p.client in omega arith) (omega arith) in
      let (some, few) = limits.calls in
      (omega arith, omega arith)

  -- what a read returns
  pub read_value : (e : Entry) → Contains entries e → e.kind ≡ Read → IsInitialOrWritten entries e.key (freshest (taken_by e)).stamp e.value e.finish
  read_value e c r = reads_return_earlier_writes s plan entries journals e limits run c r

  value_few : (e : Entry) → Contains entries e → e.value ≤ 100000
  value_few e c = elim (kinds e.kind) [
    | inl r ↦ elim (read_value e c r) [
      | inl initial ↦ let none = initial.value_is in omega arith
      | inr h ↦ let few = (write_value h.write h.there h.kind).1 in let same = h.value_is in omega arith
    ]
    | inr w ↦ (write_value e c w).1
  ]

  -- there are no more calls than the settings say
  calls_few : length entries ≤ 100000
  calls_few =
      let (some, few) = limits.calls in
      let most = not_more (λ (e : Entry). e.client) s.clients s.calls entries run.planned.clients (λ client low.
      let as_many = run.planned.as_many client low in
      let calls = whole.calls client low in
      omega arith) in
      omega arith

  module _ (ticks : All IsTick (tickets_of entries journals)) where
    abbrev bounds : Entry → List ℕ
    bounds e = e.start ∷ e.finish ∷ []

    tick : (e : Entry) (t : ℕ) → Contains entries e → Contains (bounds e) t → IsTick t
    tick e t c here =
        All-contains IsTick (tickets_of entries journals) t ticks
        (Contains-append_left (flat_map bounds entries) _ t (flattened_from bounds entries e t c here))

    line_readable : (e : Entry) → Contains entries e → IsReadable (line_of e)
    line_readable e c =
        let p = planned_of e c in
        let clients = limits.clients in
        let keys = limits.keys in
        let client = p.client in
        let key = p.key in
        let value = value_few e c in
        let start = tick e e.start c (contains_first e.start (e.finish ∷ [])) in
        let finish = tick e e.finish c (contains_later e.start e.finish (e.finish ∷ []) (contains_first e.finish [])) in
        let order = All-contains (λ (x : Entry). x.start < x.finish) entries e run.timed.ordered c in
        record {
          client = omega arith;
          key = omega arith;
          value = omega arith;
          filled = λ w. (write_value e c w).0;
          starts = start.0;
          in_order = omega arith;
          finishes = finish.1;
        }

pub runs_are_readable : RunsAreReadable
runs_are_readable s plan entries journals limits whole run ticks =
    let few = calls_few s plan entries journals limits whole run in
    record {
      few = omega arith;
      lines = all_there (λ (e : Entry). IsReadable (line_of e)) entries (line_readable s plan entries journals limits whole run ticks);
    }
