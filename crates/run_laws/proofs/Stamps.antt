-- Where the values of reads come from: by rising serve ticket, each stamp of a journal is 0 or the start of a write.
use Rattle.std.proofs.Common.{◌≡◌, ◌⊎◌, ℕ, zero, suc, ◌<◌, ◌≤◌, Bool, true, false, cond, ◌&&◌, nat_lt, List, [], ◌∷◌, length, refl, sym, ◌∙◌, ap, inl, inr, subst, arith, eq-eqb}
use Rattle.std.specs.Prelude.{◌==◌, Contains}
use Rattle.std.proofs.lemmas.Bool.{and_parts, eqb-true, cases_lt}
use Rattle.std.proofs.lemmas.List.{get_or_past}
use Rattle.std.proofs.lemmas.List.Elements.{All-contains, All-weaker, filter_passes}
use Rattle.std.proofs.lemmas.Option.{slice_get_within}
use Rattle.stale_model.specs.declared.Kind.{Kind}
use Rattle.stale_model.specs.declared.Kind.TheVariants.{Read, Write}
use Rattle.stale_model.specs.declared.store.Ask.{Ask}
use Rattle.stale_model.specs.declared.store.Ask.TheVariants.{Read as AskRead, Write as AskWrite, Repair}
use Rattle.stale_model.specs.declared.store.Settings.{Settings}
use Rattle.stale_model.specs.declared.store.Plan.{Plan}
use Rattle.stale_model.specs.declared.store.Request.{Request}
use Rattle.stale_model.specs.declared.store.JournalEntry.{JournalEntry}
use Rattle.stale_model.specs.declared.store.Took.{Took}
use Rattle.stale_model.specs.declared.store.Entry.{Entry}
use Rattle.stale_model.specs.Settings.{AreSettings, quorum, calls_of}
use Rattle.stale_model.specs.Journals.{Pair, nothing, changes, pair_of, newer, held_after, held, answer_to}
use Rattle.stale_model.specs.Calls.{taken_by, fresher, freshest_from, freshest, ask_of, request_of}
use Rattle.stale_model.specs.RecordedRuns.{entries_of, journal_of, AreTaken, ReadsFreshest, IsRecordedRun}
use Rattle.stale_model.proofs.Places.{something_at}
use Rattle.stale_model.proofs.Sorted.{contains_later}
use Rattle.stale_model.proofs.Members.{empty_has_none, contains_first, kept_is_there, kept_from}
use Rattle.run_laws.specs.Laws.{AreCallsOf, IsInitialOrWritten, ReadsReturnEarlierWrites}
use Rattle.run_laws.proofs.Senders.{IsEntryAfter, served_at, IsSentBy, sender, to_the_call}

freshest_by : (b : Bool) (best t : Took) (ts : List Took) (x : Took) → (cond b t best ≡ x) ⊎ Contains ts x → (best ≡ x) ⊎ Contains (t ∷ ts) x
freshest_by b best t ts x (inr later) = inr (contains_later t x ts later)
freshest_by true best t ts x (inl is) = inr (subst (λ (z : Took). Contains (t ∷ ts) z) is (contains_first t ts))
freshest_by false best t ts x (inl is) = inl is

freshest_from_there : (best : Took) (ts : List Took) → (best ≡ freshest_from best ts) ⊎ Contains ts (freshest_from best ts)
freshest_from_there best [] = inl refl
freshest_from_there best (t ∷ ts) = freshest_by (nat_lt best.stamp t.stamp) best t ts (freshest_from (fresher best t) ts) (freshest_from_there (fresher best t) ts)

-- the freshest of some replies is one of them
freshest_there : (ts : List Took) → 1 ≤ length ts → Contains ts (freshest ts)
freshest_there [] some = absurd (omega arith)
freshest_there (t ∷ ts) some = elim (freshest_from_there t ts) [
  | inl is ↦ subst (λ (z : Took). Contains (t ∷ ts) z) is (contains_first t ts)
  | inr later ↦ contains_later t (freshest_from t ts) ts later
]

-- the pair of a reply that a call took
abbrev taken_pair : Took → Pair
taken_pair t = record { stamp = t.stamp; value = t.value }

-- a pair that an entry of the journal has for the key
record IsPairOf (key : ℕ) (js : List JournalEntry) (p : Pair) : Type 0 where
  entry : JournalEntry
  there : Contains js entry
  key_is : entry.request.key ≡ key
  pair : p ≡ pair_of entry

held_by : (b c : Bool) (pair : Pair) (key : ℕ) (j : JournalEntry) (js : List JournalEntry) (p : Pair) → ((j.request.key == key) && changes j.request.ask) ≡ b
    → (p ≡ cond b (cond c (pair_of j) pair) pair) ⊎ IsPairOf key js p → (p ≡ pair) ⊎ IsPairOf key (j ∷ js) p
held_by b c pair key j js p t (inr h) = inr (record { entry = h.entry; there = contains_later j h.entry js h.there; key_is = h.key_is; pair = h.pair })
held_by true true pair key j js p t (inl is) = inr (record { entry = j; there = contains_first j js; key_is = eqb-true j.request.key key (and_parts (j.request.key == key) (changes j.request.ask) t).0; pair = is })
held_by true false pair key j js p t (inl is) = inl is
held_by false c pair key j js p t (inl is) = inl is

-- what is held of a key is what was held before, or a pair that the journal has for it
held_cases : (pair : Pair) (key : ℕ) (js : List JournalEntry) → (held_after pair key js ≡ pair) ⊎ IsPairOf key js (held_after pair key js)
held_cases pair key [] = inl refl
held_cases pair key (j ∷ js) =
    let b = (j.request.key == key) && changes j.request.ask in
    let next = cond b (newer pair (pair_of j)) pair in
    held_by b (nat_lt pair.stamp j.reply.stamp) pair key j js (held_after pair key (j ∷ js)) refl (held_cases next key js)

-- a call that asks to write is a write of this value
is_write : (kind : Kind) (value other : ℕ) → ask_of kind value ≡ AskWrite other → (kind ≡ Write) × (value ≡ other)
is_write Read value other e = absurd (cc)
is_write Write value other e = (refl, cc)

-- no call asks to repair
no_repair : (kind : Kind) (value stamp other : ℕ) → ask_of kind value ≡ Repair stamp other → ⊥
no_repair Read value stamp other e = cc
no_repair Write value stamp other e = cc

same_repair : (stamp value s v : ℕ) → Repair stamp value ≡ Repair s v → (stamp ≡ s) × (value ≡ v)
same_repair stamp value s v e = (cc, cc)

some_quorum : (settings : Settings) (kind : Kind) → AreSettings settings → 1 ≤ quorum settings kind
some_quorum settings Read limits = limits.read_quorum.0
some_quorum settings Write limits = limits.write_quorum.0

module _ (settings : Settings) (plan : Plan) (entries : List Entry) (journals : List (List JournalEntry)) (limits : AreSettings settings) (run : IsRecordedRun settings plan entries journals) where
  calls_are : (client : ℕ) → client < settings.clients → AreCallsOf client (entries_of client entries)
  calls_are client among = record {
    client_is = All-weaker (λ (e : Entry). (e.client == client) ≡ true) (λ (e : Entry). e.client ≡ client) (λ e t. eqb-true e.client client t) (entries_of client entries) (filter_passes (λ (e : Entry). e.client == client) entries);
    numbered = λ k e at.
        let within = slice_get_within (entries_of client entries) k e at in
        let many = run.planned.as_many client among in
        let (call, is) = something_at (calls_of plan client) k (omega arith) in
        (run.planned.each client k e call at is).seq_is;
  }

  -- only a replica of the store has an entry in its journal
  is_replica : (replica : ℕ) (j : JournalEntry) → Contains (journal_of journals replica) j → replica < settings.replicas
  is_replica replica j c = elim (cases_lt replica (length journals)) [
    | inl low ↦ let many = run.sent.as_many in omega arith
    | inr past ↦ absurd (empty_has_none j (subst (λ (js : List JournalEntry). Contains js j) (get_or_past journals replica [] past) c))
  ]

  is_client : (replica : ℕ) (j : JournalEntry) → Contains (journal_of journals replica) j → j.request.client < settings.clients
  is_client replica j c = All-contains (λ (i : JournalEntry). i.request.client < settings.clients) (journal_of journals replica) j (run.sent.clients replica) c

  -- the call of a journal's entry
  sender_of : (replica : ℕ) (j : JournalEntry) → Contains (journal_of journals replica) j → IsSentBy entries j.request
  sender_of replica j c =
      let client = j.request.client in
      let sent = run.sent.requests replica client (is_replica replica j c) (is_client replica j c) in
      let s = sender client replica (entries_of client entries) (journal_of journals replica) sent j c refl in
      record { call = s.call; there = kept_is_there (λ (e : Entry). e.client == client) entries s.call s.there; request = s.request }

  taken : (e : Entry) → Contains entries e → AreTaken settings journals e
  taken e c = All-contains (AreTaken settings journals) entries e run.taken c

  -- a reply that a call took is to its request
  request_is : (e : Entry) (t : Took) (c : Contains entries e) (d : Contains (taken_by e) t) → ((taken e c).each t d).entry.request ≡ request_of e
  request_is e t c d =
      let r = (taken e c).each t d in
      let j = r.entry in
      let served = (served_at t.replica (journal_of journals t.replica) j (run.served t.replica) r.there).served in
      let client : j.request.client ≡ e.client = sym served.client ∙ r.client in
      let among : e.client < settings.clients = let low = is_client t.replica j r.there in omega arith in
      let sent = run.sent.requests t.replica e.client (is_replica t.replica j r.there) among in
      let mine = kept_from (λ (x : Entry). x.client == e.client) entries e c (eq-eqb e.client e.client refl) in
      to_the_call e.client t.replica (entries_of e.client entries) (journal_of journals t.replica) sent j e (calls_are e.client among) r.there client r.plain mine (sym served.seq ∙ r.seq)

  abbrev IsKnown : ℕ → Pair → ℕ → Type 0
  IsKnown key pair moment = IsInitialOrWritten entries key pair.stamp pair.value moment

  -- what was written before a moment was written before a later one
  known_later : (key : ℕ) (pair : Pair) (m n : ℕ) → m ≤ n → IsKnown key pair m → IsKnown key pair n
  known_later key pair m n low (inl h) = inl h
  known_later key pair m n low (inr h) = inr (record {
    write = h.write;
    there = h.there;
    kind = h.kind;
    key_is = h.key_is;
    value_is = h.value_is;
    stamp_is = h.stamp_is;
    before = let b = h.before in omega arith;
  })

  known_same : (key : ℕ) (pair other : Pair) (moment : ℕ) → pair ≡ other → IsKnown key other moment → IsKnown key pair moment
  known_same key pair other moment e h = subst (λ (p : Pair). IsKnown key p moment) (sym e) h

  known_key : (key other : ℕ) (pair : Pair) (moment : ℕ) → key ≡ other → IsKnown other pair moment → IsKnown key pair moment
  known_key key other pair moment e h = subst (λ (k : ℕ). IsKnown k pair moment) (sym e) h

  abbrev IsKnownEntry : JournalEntry → Type 0
  IsKnownEntry j = IsKnown j.request.key (pair_of j) j.reply.serve

  -- each entry of a journal that was served before ticket n
  abbrev KnownBelow : ℕ → Type 0
  KnownBelow n = (replica : ℕ) (j : JournalEntry) → Contains (journal_of journals replica) j → j.reply.serve < n → IsKnownEntry j

  -- a reply that a call took
  taken_known : (n : ℕ) (e : Entry) (t : Took) → KnownBelow n → Contains entries e → Contains (taken_by e) t → t.serve < n → IsKnown e.key (taken_pair t) t.serve
  taken_known n e t below c d low =
      let r = (taken e c).each t d in
      let j = r.entry in
      let serve : j.reply.serve ≡ t.serve = sym (ap (λ (z : Took). z.serve) r.same) in
      let key : e.key ≡ j.request.key = sym (ap (λ (q : Request). q.key) (request_is e t c d)) in
      let pair : taken_pair t ≡ pair_of j = ap taken_pair r.same in
      let before = below t.replica j r.there (omega arith) in
      known_later e.key (taken_pair t) j.reply.serve t.serve (omega arith)
      (known_key e.key j.request.key (taken_pair t) j.reply.serve key (known_same j.request.key (taken_pair t) (pair_of j) j.reply.serve pair before))

  freshest_taken : (e : Entry) → Contains entries e → Contains (taken_by e) (freshest (taken_by e))
  freshest_taken e c =
      let count = (taken e c).count in
      let many = (taken e c).many in
      let some = some_quorum settings e.kind limits in
      freshest_there (taken_by e) (omega arith)

  -- the freshest reply that a call took
  freshest_known : (n : ℕ) (e : Entry) → KnownBelow n → Contains entries e → e.finish ≤ n → IsKnown e.key (taken_pair (freshest (taken_by e))) e.finish
  freshest_known n e below c low =
      let t = freshest (taken_by e) in
      let d = freshest_taken e c in
      let early = ((taken e c).each t d).before_finish in
      known_later e.key (taken_pair t) t.serve e.finish (omega arith) (taken_known n e t below c d (omega arith))

  module _ (n replica : ℕ) (j : JournalEntry) (below : KnownBelow n) (c : Contains (journal_of journals replica) j) (low : j.reply.serve ≤ n) where
    -- a read's reply has what was held: nothing, or the pair of an earlier entry
    read_known : (s : IsEntryAfter replica (journal_of journals replica) j) → pair_of j ≡ held j.request.key s.earlier → IsKnownEntry j
    read_known s pair = elim (held_cases nothing j.request.key s.earlier) [
      | inl none ↦ inl (record { stamp_is = ap (λ (p : Pair). p.stamp) (pair ∙ none); value_is = ap (λ (p : Pair). p.value) (pair ∙ none) })
      | inr h ↦
          let rises = s.rises h.entry h.there in
          let before = below replica h.entry (s.there h.entry h.there) (omega arith) in
          known_same j.request.key (pair_of j) (pair_of h.entry) j.reply.serve (pair ∙ h.pair)
          (known_later j.request.key (pair_of h.entry) h.entry.reply.serve j.reply.serve (omega arith) (known_key j.request.key h.entry.request.key (pair_of h.entry) h.entry.reply.serve (sym h.key_is) before))
    ]

    -- a write's reply has what its call writes
    write_known : (value : ℕ) → j.request.ask ≡ AskWrite value → pair_of j ≡ record { stamp = j.request.start; value = value } → j.request.start < j.reply.serve → IsSentBy entries j.request → IsKnownEntry j
    write_known value ask pair after s = elim s.request [
      | inl request ↦
          let (kind, written) = is_write s.call.kind s.call.value value (sym (ap (λ (q : Request). q.ask) request) ∙ ask) in
          let start : s.call.start ≡ j.request.start = sym (ap (λ (q : Request). q.start) request) in
          inr (record {
            write = s.call;
            there = s.there;
            kind = kind;
            key_is = sym (ap (λ (q : Request). q.key) request);
            value_is = written ∙ sym (ap (λ (p : Pair). p.value) pair);
            stamp_is = start ∙ sym (ap (λ (p : Pair). p.stamp) pair);
            before = omega arith;
          })
      | inr repair ↦ absurd (let is = sym (ap (λ (q : Request). q.ask) repair) ∙ ask in cc is)
    ]

    -- a repair's reply has the freshest pair of its read, which finished before
    repair_known : (stamp value : ℕ) → j.request.ask ≡ Repair stamp value → pair_of j ≡ record { stamp = stamp; value = value } → j.request.start < j.reply.serve → IsSentBy entries j.request → IsKnownEntry j
    repair_known stamp value ask pair after s = elim s.request [
      | inl request ↦ absurd (no_repair s.call.kind s.call.value stamp value (sym (ap (λ (q : Request). q.ask) request) ∙ ask))
      | inr repair ↦
          let e = s.call in
          let t = freshest (taken_by e) in
          let start : j.request.start ≡ e.finish = ap (λ (q : Request). q.start) repair in
          let (stamps, values) = same_repair t.stamp t.value stamp value (sym (ap (λ (q : Request). q.ask) repair) ∙ ask) in
          let same : pair_of j ≡ taken_pair t = pair ∙ (λ i. record { stamp = sym stamps i; value = sym values i }) in
          known_key j.request.key e.key (pair_of j) j.reply.serve (ap (λ (q : Request). q.key) repair)
          (known_same e.key (pair_of j) (taken_pair t) j.reply.serve same
          (known_later e.key (taken_pair t) e.finish j.reply.serve (omega arith) (freshest_known n e below s.there (omega arith))))
    ]

    by_ask : (ask : Ask) (s : IsEntryAfter replica (journal_of journals replica) j) → j.request.ask ≡ ask → pair_of j ≡ answer_to s.earlier j.request ask → IsKnownEntry j
    by_ask AskRead s is pair = read_known s pair
    by_ask (AskWrite value) s is pair = write_known value is pair s.served.after_start (sender_of replica j c)
    by_ask (Repair stamp value) s is pair = repair_known stamp value is pair s.served.after_start (sender_of replica j c)

  all_known : (n : ℕ) → KnownBelow n
  all_known zero replica j c low = absurd (omega arith)
  all_known (suc n) replica j c low =
      let s = served_at replica (journal_of journals replica) j (run.served replica) c in
      by_ask n replica j (all_known n) c (omega arith) j.request.ask s refl s.served.pair

pub reads_return_earlier_writes : ReadsReturnEarlierWrites
reads_return_earlier_writes settings plan entries journals e limits run c read =
    let value = All-contains ReadsFreshest entries e run.freshest c read in
    let known = freshest_known settings plan entries journals limits run e.finish e (all_known settings plan entries journals limits run e.finish) c (omega arith) in
    subst (λ (v : ℕ). IsInitialOrWritten entries e.key (freshest (taken_by e)).stamp v e.finish) (sym value) known
