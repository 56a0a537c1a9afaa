-- The lines of a recorded run read, and its replies are found by their tickets.
use Rattle.std.proofs.Common.{◌≡◌, ℕ, suc, ◌+◌, ◌*◌, ◌<◌, ◌≤◌, ◌==◌, List, [], ◌∷◌, map, length, refl, sym, ◌∙◌, ap, inl, inr, subst, arith, suc-mul, eq-eqb}
use Rattle.std.specs.Prelude.{All, Contains, flat_map, Some}
use Rattle.std.proofs.lemmas.Bool.{cases_lt}
use Rattle.std.proofs.lemmas.List.{get_or_past}
use Rattle.std.proofs.lemmas.List.Elements.{All-contains, Contains-get_or, Contains-append_left, Contains-append_right}
use Rattle.std.proofs.lemmas.Nat.{mul-le}
use Rattle.std.proofs.lemmas.Option.{slice_get_within, get_or_from_slice_get}
use Rattle.stale_model.specs.declared.Kind.{Kind}
use Rattle.stale_model.specs.declared.Kind.TheVariants.{Read, Write}
use Rattle.stale_model.specs.declared.store.Settings.{Settings}
use Rattle.stale_model.specs.declared.store.Plan.{Plan}
use Rattle.stale_model.specs.declared.store.Request.{Request}
use Rattle.stale_model.specs.declared.store.JournalEntry.{JournalEntry}
use Rattle.stale_model.specs.declared.store.Took.{Took}
use Rattle.stale_model.specs.declared.store.Entry.{Entry}
use Rattle.stale_model.specs.Settings.{AreSettings, quorum, calls_of}
use Rattle.stale_model.specs.Journals.{pair_of}
use Rattle.stale_model.specs.Calls.{taken_by}
use Rattle.stale_model.specs.Orders.{IsWithoutRepeats}
use Rattle.stale_model.specs.RecordedRuns.{entries_of, journal_of, tickets_of, AreTaken, IsReplyTo, IsRecordedRun}
use Rattle.stale_model.proofs.Members.{empty_has_none, contains_first, kept_from, mapped_from, before_flattened}
use Rattle.stale_model.proofs.Places.{place_of, something_at}
use Rattle.stale_model.proofs.ReadsAndWrites.{kinds}
use Rattle.stale_model.proofs.Sorted.{contains_later}
use Rattle.run_laws.proofs.Counted.{all_there, flattened_from}
use Rattle.run_laws.proofs.Senders.{served_at}
use Rattle.run_laws.proofs.Stamps.{reads_return_earlier_writes}
use Rattle.quorum_client.specs.Plans.{IsWhole}
use Rattle.trace_check.specs.Lines.{tick_limit, value_limit, most_taken}
use Rattle.trace_check.specs.Reading.{reply_at, with_replies}
use Rattle.trace_laws.specs.Laws.{IsTick}
use Rattle.trace_laws.proofs.Fields.{ask_reads}
use Rattle.trace_laws.proofs.CallLines.{IsReadableCall, with_tickets}
use Rattle.trace_laws.proofs.EntryLines.{IsReadableEntry}
use Rattle.trace_laws.proofs.Replies.{reply_found, call_found}
use Rattle.trace_laws.proofs.Journals.{all_entries, AreOf, are_of, serves_are, no_repeats_after}
use Rattle.trace_laws.proofs.Pairs.{IsOfWrite, IsNothingOrOfWrite, request_is, change_is, pair_is}

-- what the plan says of a call
record IsPlannedCall (s : Settings) (e : Entry) : Type 0 where
  client : e.client < s.clients
  key : e.key < s.keys
  seq : (1 ≤ e.seq) × (e.seq ≤ s.calls)
  written : e.kind ≡ Write → (1 ≤ e.value) × (e.value < value_limit)

-- a request has the number and the key of a call, and starts at a tick
record IsRequested (s : Settings) (q : Request) : Type 0 where
  seq : (1 ≤ q.seq) × (q.seq ≤ s.calls)
  key : q.key < s.keys
  start : IsTick q.start

quorum_bounds : (s : Settings) (kind : Kind) → AreSettings s → (1 ≤ quorum s kind) × (quorum s kind ≤ most_taken)
quorum_bounds s Read limits = let (some, most) = limits.read_quorum in let few = limits.replicas in (some, omega arith)
quorum_bounds s Write limits = let (some, most) = limits.write_quorum in let few = limits.replicas in (some, omega arith)

module _ (s : Settings) (plan : Plan) (entries : List Entry) (journals : List (List JournalEntry)) (limits : AreSettings s) (whole : IsWhole s plan)
    (run : IsRecordedRun s plan entries journals) (ticks : All IsTick (tickets_of entries journals)) where
  abbrev lines : List JournalEntry
  lines = all_entries journals

  abbrev bounds : List ℕ
  bounds = flat_map (λ e. e.start ∷ e.finish ∷ []) entries

  abbrev serves : List ℕ
  serves = flat_map (λ js. map (λ j. j.reply.serve) js) journals

  -- only a replica of the store has an entry in its journal
  is_replica : (replica : ℕ) (j : JournalEntry) → Contains (journal_of journals replica) j → replica < length journals
  is_replica replica j c = elim (cases_lt replica (length journals)) [
    | inl low ↦ low
    | inr past ↦ absurd (empty_has_none j (subst (λ (js : List JournalEntry). Contains js j) (get_or_past journals replica [] past) c))
  ]

  in_lines : (replica : ℕ) (j : JournalEntry) → Contains (journal_of journals replica) j → Contains lines j
  in_lines replica j c =
      flattened_from (λ (js : List JournalEntry). js) journals (journal_of journals replica) j (Contains-get_or journals replica [] (is_replica replica j c)) c

  -- an entry of all journals is of one of them
  of_journal : (j : JournalEntry) → Contains lines j → (replica : ℕ) × Contains (journal_of journals replica) j
  of_journal j c =
      let (js, there, here) = before_flattened (λ (js : List JournalEntry). js) journals j c in
      let (replica, at) = place_of journals js there in
      (replica, subst (λ (l : List JournalEntry). Contains l j) (sym (get_or_from_slice_get journals replica js [] at)) here)

  -- no two entries were served at one ticket, and each was served at a tick
  pub served_once : IsWithoutRepeats (map (λ j. j.reply.serve) lines)
  served_once = subst (λ (ns : List ℕ). IsWithoutRepeats ns) (serves_are journals) (no_repeats_after bounds serves run.timed.once)

  serve_tick : (j : JournalEntry) → Contains lines j → IsTick j.reply.serve
  serve_tick j c =
      let there = subst (λ (ns : List ℕ). Contains ns j.reply.serve) (sym (serves_are journals)) (mapped_from (λ (i : JournalEntry). i.reply.serve) lines j c) in
      All-contains IsTick (tickets_of entries journals) j.reply.serve ticks (Contains-append_right bounds serves j.reply.serve there)

  pub served_after_zero : All (λ j. 0 < j.reply.serve) lines
  served_after_zero = all_there (λ (j : JournalEntry). 0 < j.reply.serve) lines (λ j c. let (low, high) = serve_tick j c in omega arith)

  -- a start or a finish of a call is a tick
  bound_tick : (e : Entry) (t : ℕ) → Contains entries e → Contains (e.start ∷ e.finish ∷ []) t → IsTick t
  bound_tick e t c here =
      All-contains IsTick (tickets_of entries journals) t ticks (Contains-append_left bounds serves t (flattened_from (λ (x : Entry). x.start ∷ x.finish ∷ []) entries e t c here))

  start_tick : (e : Entry) → Contains entries e → IsTick e.start
  start_tick e c = bound_tick e e.start c (contains_first e.start (e.finish ∷ []))

  finish_tick : (e : Entry) → Contains entries e → IsTick e.finish
  finish_tick e c = bound_tick e e.finish c (contains_later e.start e.finish (e.finish ∷ []) (contains_first e.finish []))

  planned : (e : Entry) → Contains entries e → IsPlannedCall s e
  planned e c =
      let client = All-contains (λ (x : Entry). x.client < s.clients) entries e run.planned.clients c in
      let mine = entries_of e.client entries in
      let (k, at) = place_of mine e (kept_from (λ (x : Entry). x.client == e.client) entries e c (eq-eqb e.client e.client refl)) in
      let within = slice_get_within mine k e at in
      let as_many = run.planned.as_many e.client client in
      let calls = whole.calls e.client client in
      let (call, plan_at) = something_at (calls_of plan e.client) k (omega arith) in
      let is = run.planned.each e.client k e call at plan_at in
      let of = whole.each e.client k call plan_at in
      let key = of.key in
      let same_key = is.key in
      let seq = is.seq_is in
      record {
        client = client;
        key = omega arith;
        seq = (omega arith, omega arith);
        written = λ w.
            let kind = sym is.kind ∙ w in
            let value = is.value kind in
            let number = of.written kind in
            let one_more = suc-mul e.client s.calls in
            let most : suc e.client * s.calls ≤ s.clients * s.calls = mul-le (suc e.client) s.calls s.clients s.calls (omega arith) (omega arith) in
            let (some, few) = limits.calls in
            (omega arith, omega arith);
      }

  -- what a read returns was written by a call, or is nothing
  call_value_low : (e : Entry) → Contains entries e → e.value < value_limit
  call_value_low e c = elim (kinds e.kind) [
    | inl read ↦ elim (reads_return_earlier_writes s plan entries journals e limits run c read) [
      | inl initial ↦ let none = initial.value_is in omega arith
      | inr h ↦ let low = ((planned h.write h.there).written h.kind).1 in let same = h.value_is in omega arith
    ]
    | inr write ↦ ((planned e c).written write).1
  ]

  taken : (e : Entry) → Contains entries e → AreTaken s journals e
  taken e c = All-contains (AreTaken s journals) entries e run.taken c

  -- a reply that a call took was served at a tick, and is found by it
  taken_tick : (e : Entry) (t : Took) → IsReplyTo journals e t → IsTick t.serve
  taken_tick e t r = subst IsTick (sym (ap (λ (x : Took). x.serve) r.same)) (serve_tick r.entry (in_lines t.replica r.entry r.there))

  taken_found : (e : Entry) (t : Took) → IsReplyTo journals e t → reply_at lines t.serve ≡ Some t
  taken_found e t r = reply_found lines r.entry t served_once (in_lines t.replica r.entry r.there) r.same

  -- the line of a call reads
  pub call_readable : (e : Entry) → Contains entries e → IsReadableCall s e
  call_readable e c =
      let p = planned e c in
      let took = taken e c in
      let count = took.count in
      let many = took.many in
      let (some, few) = quorum_bounds s e.kind limits in
      record {
        client = p.client;
        key = p.key;
        value = call_value_low e c;
        filled = λ w. (p.written w).0;
        start = start_tick e c;
        finish = finish_tick e c;
        seq = p.seq;
        some = omega arith;
        few = omega arith;
        taken = all_there (λ (t : Took). IsTick t.serve) (taken_by e) (λ t d. taken_tick e t (took.each t d));
      }

  -- and the call is found again from its tickets
  pub call_again : (e : Entry) → Contains entries e → length e.took ≡ most_taken → with_replies lines (with_tickets e) ≡ e
  call_again e c places =
      let took = taken e c in
      call_found lines e served_after_zero
      (all_there (λ (t : Took). reply_at lines t.serve ≡ Some t) (taken_by e) (λ t d. taken_found e t (took.each t d))) took.many places took.others

  requested : (replica : ℕ) (low : replica < s.replicas) (j : JournalEntry) → Contains (journal_of journals replica) j → IsRequested s j.request
  requested replica low j c =
      let of = request_is s plan entries journals limits run replica low j c in
      let e = of.call in
      let call = call_readable e of.there in
      elim of.request [
        | inl is ↦ subst (IsRequested s) (sym is) (record { seq = call.seq; key = call.key; start = call.start })
        | inr is ↦ subst (IsRequested s) (sym is.0) (record { seq = call.seq; key = call.key; start = call.finish })
      ]

  -- what is known of a pair that a call wrote, or of nothing
  value_low : (stamp value : ℕ) → IsNothingOrOfWrite entries stamp value → value < value_limit
  value_low stamp value (inl none) = let e = none.1 in omega arith
  value_low stamp value (inr w) = let e = w.value_is in let low = ((planned w.write w.there).written w.kind).1 in omega arith

  stamp_low : (stamp value : ℕ) → IsNothingOrOfWrite entries stamp value → stamp < tick_limit
  stamp_low stamp value (inl none) = let e = none.0 in omega arith
  stamp_low stamp value (inr w) =
      let e = w.stamp_is in
      let high = (start_tick w.write w.there).1 in
      omega arith

  value_some : (stamp value : ℕ) → IsOfWrite entries stamp value → 1 ≤ value
  value_some stamp value w = let e = w.value_is in let some = ((planned w.write w.there).written w.kind).0 in omega arith

  -- the line of an entry reads
  of_replica : (replica : ℕ) (j : JournalEntry) → Contains (journal_of journals replica) j → IsReadableEntry s j
  of_replica replica j c =
      let many = run.sent.as_many in
      let place = is_replica replica j c in
      let low : replica < s.replicas = omega arith in
      let after = served_at replica (journal_of journals replica) j (run.served replica) c in
      let request = requested replica low j c in
      let pair = pair_is s plan entries journals limits run replica low j c in
      let replica_is = after.served.replica_is in
      record {
        replica = omega arith;
        serve = serve_tick j (in_lines replica j c);
        client = All-contains (λ (i : JournalEntry). i.request.client < s.clients) (journal_of journals replica) j (run.sent.clients replica) c;
        seq = request.seq;
        start = request.start;
        key = request.key;
        value = value_low j.reply.stamp j.reply.value pair;
        filled = λ change. value_some j.reply.stamp j.reply.value (change_is s plan entries journals limits run replica low j c change);
        stamp = stamp_low j.reply.stamp j.reply.value pair;
        ask = ask_reads after.earlier j.request j.request.ask (pair_of j) after.served.pair;
        reply_client = after.served.client;
        reply_seq = after.served.seq;
      }

  pub entries_readable : All (IsReadableEntry s) lines
  entries_readable = all_there (IsReadableEntry s) lines (λ j c. let (replica, here) = of_journal j c in of_replica replica j here)

  -- each journal is of its replica
  pub journals_are_of : AreOf 0 journals
  journals_are_of =
      are_of 0 journals
      (λ i low. all_there (λ (j : JournalEntry). j.reply.replica ≡ 0 + i) (journal_of journals i)
      (λ j c. let is = (served_at i (journal_of journals i) j (run.served i) c).served.replica_is in omega arith))
