-- The pairs in the journals of a run: each is nothing, or was written by a call.
use Rattle.std.proofs.Common.{◌≡◌, ◌⊎◌, ℕ, ◌<◌, ◌≤◌, ◌==◌, ◌&&◌, Bool, true, false, cond, not, nat_lt, List, [], ◌∷◌, refl, sym, ◌∙◌, ap, inl, inr, subst, arith, eq-eqb, ltb-true}
use Rattle.std.specs.Prelude.{Contains}
use Rattle.std.proofs.lemmas.Bool.{and_parts, or_cases, both_ways}
use Rattle.std.proofs.lemmas.List.Elements.{All-contains}
use Rattle.stale_model.specs.declared.Kind.{Kind}
use Rattle.stale_model.specs.declared.Kind.TheVariants.{Read, Write}
use Rattle.stale_model.specs.declared.store.Ask.{Ask}
use Rattle.stale_model.specs.declared.store.Ask.TheVariants.{Read as AskRead, Write as AskWrite, Repair}
use Rattle.stale_model.specs.declared.store.Settings.{Settings}
use Rattle.stale_model.specs.declared.store.Plan.{Plan}
use Rattle.stale_model.specs.declared.store.Request.{Request}
use Rattle.stale_model.specs.declared.store.JournalEntry.{JournalEntry}
use Rattle.stale_model.specs.declared.store.Took.{Took}
use Rattle.stale_model.specs.declared.store.Entry.{Entry}
use Rattle.stale_model.specs.Operations.{is_write_kind}
use Rattle.stale_model.specs.Settings.{AreSettings}
use Rattle.stale_model.specs.Journals.{Pair, changes, pair_of, answer_to}
use Rattle.stale_model.specs.Calls.{taken_by, freshest, is_stale, ask_of, request_of, repair_of, repairs, sent_to}
use Rattle.stale_model.specs.RecordedRuns.{entries_of, journal_of, served_for, ReadsFreshest, IsRecordedRun}
use Rattle.stale_model.proofs.Members.{empty_has_none, kept_is_there, kept_from, mapped_from, before_flattened}
use Rattle.stale_model.proofs.Places.{contains_at}
use Rattle.stale_model.proofs.ReadsAndWrites.{kind_is_read}
use Rattle.stale_model.proofs.Sorted.{first_or_later}
use Rattle.run_laws.proofs.Greatest.{held_is}
use Rattle.run_laws.proofs.Senders.{sent_cases, served_at}
use Rattle.run_laws.proofs.Stamps.{reads_return_earlier_writes}

-- a stamp and a value that a call wrote
pub record IsOfWrite (entries : List Entry) (stamp value : ℕ) : Type 0 where
  pub write : Entry
  pub there : Contains entries write
  pub kind : write.kind ≡ Write
  pub stamp_is : stamp ≡ write.start
  pub value_is : value ≡ write.value

-- a stamp and a value that are nothing, or that a call wrote
abbrev pub IsNothingOrOfWrite : List Entry → ℕ → ℕ → Type 0
IsNothingOrOfWrite entries stamp value = ((stamp ≡ 0) × (value ≡ 0)) ⊎ IsOfWrite entries stamp value

-- the call whose request this is, or whose repair, which goes to the replica
pub record IsRequestOf (entries : List Entry) (replica : ℕ) (q : Request) : Type 0 where
  pub call : Entry
  pub there : Contains entries call
  pub request : (q ≡ request_of call) ⊎ ((q ≡ repair_of call) × (repairs call replica ≡ true))

sent_so : (b : Bool) (e : Entry) (q : Request) → Contains (request_of e ∷ cond b (repair_of e ∷ []) []) q → (q ≡ request_of e) ⊎ ((q ≡ repair_of e) × (b ≡ true))
sent_so true e q c = elim (sent_cases true e q c) [ inl is ↦ inl is | inr is ↦ inr (is, refl) ]
sent_so false e q c = elim (first_or_later (request_of e) q [] c) [ inl is ↦ inl (sym is) | inr none ↦ absurd (empty_has_none q none) ]

-- the stamp that a reply is older than is not 0
stale_some : (stamp replica : ℕ) (ts : List Took) → is_stale stamp replica ts ≡ true → 1 ≤ stamp
stale_some stamp replica [] t = absurd (both_ways false refl t)
stale_some stamp replica (x ∷ ts) t = elim (or_cases ((x.replica == replica) && nat_lt x.stamp stamp) (is_stale stamp replica ts) t) [
  | inl here ↦
      let (same, less) = and_parts (x.replica == replica) (nat_lt x.stamp stamp) here in
      let low = ltb-true x.stamp stamp less in
      omega arith
  | inr later ↦ stale_some stamp replica ts later
]

-- the pair that a call's request changes a replica by is what it writes
written_pair : (entries : List Entry) (js : List JournalEntry) (e : Entry) (pair : Pair) → Contains entries e → (kind : Kind) → e.kind ≡ kind → changes (ask_of kind e.value) ≡ true
    → pair ≡ answer_to js (request_of e) (ask_of kind e.value) → IsOfWrite entries pair.stamp pair.value
written_pair entries js e pair there Read is change at = absurd (both_ways false refl change)
written_pair entries js e pair there Write is change at = record {
  write = e;
  there = there;
  kind = is;
  stamp_is = ap (λ (p : Pair). p.stamp) at;
  value_is = ap (λ (p : Pair). p.value) at;
}

module _ (s : Settings) (plan : Plan) (entries : List Entry) (journals : List (List JournalEntry)) (limits : AreSettings s) (run : IsRecordedRun s plan entries journals) where
  -- the pair of a repair is what a call wrote
  repaired_pair : (js : List JournalEntry) (e : Entry) (pair : Pair) (replica : ℕ) → Contains entries e → repairs e replica ≡ true
      → pair ≡ answer_to js (repair_of e) (repair_of e).ask → IsOfWrite entries pair.stamp pair.value
  repaired_pair js e pair replica there t at =
      let fresh = freshest (taken_by e) in
      let (plain, stale) = and_parts (not (is_write_kind e.kind)) (is_stale fresh.stamp replica (taken_by e)) t in
      let read = kind_is_read e.kind plain in
      let some = stale_some fresh.stamp replica (taken_by e) stale in
      let value = All-contains ReadsFreshest entries e run.freshest there read in
      elim (reads_return_earlier_writes s plan entries journals e limits run there read) [
        | inl initial ↦ absurd (let none = initial.stamp_is in omega arith)
        | inr h ↦ record {
          write = h.write;
          there = h.there;
          kind = h.kind;
          stamp_is = ap (λ (p : Pair). p.stamp) at ∙ sym h.stamp_is;
          value_is = ap (λ (p : Pair). p.value) at ∙ sym value ∙ sym h.value_is;
        }
      ]

  module _ (replica : ℕ) (low : replica < s.replicas) where
    -- the call whose request an entry of the journal has
    pub request_is : (j : JournalEntry) → Contains (journal_of journals replica) j → IsRequestOf entries replica j.request
    request_is j c =
        let client = j.request.client in
        let js = journal_of journals replica in
        let among = All-contains (λ (i : JournalEntry). i.request.client < s.clients) js j (run.sent.clients replica) c in
        let mine = kept_from (λ (i : JournalEntry). i.request.client == client) js j c (eq-eqb client client refl) in
        let sent = subst (λ (qs : List Request). Contains qs j.request) (run.sent.requests replica client low among) (mapped_from (λ (i : JournalEntry). i.request) (served_for client js) j mine) in
        let (e, own, here) = before_flattened (sent_to replica) (entries_of client entries) j.request sent in
        record { call = e; there = kept_is_there (λ (x : Entry). x.client == client) entries e own; request = sent_so (repairs e replica) e j.request here }

    -- the pair of an entry that changes what is held is what a call wrote
    pub change_is : (j : JournalEntry) → Contains (journal_of journals replica) j → changes j.request.ask ≡ true → IsOfWrite entries j.reply.stamp j.reply.value
    change_is j c change =
        let of = request_is j c in
        let after = served_at replica (journal_of journals replica) j (run.served replica) c in
        elim of.request [
          | inl is ↦
              written_pair entries after.earlier of.call (pair_of j) of.there of.call.kind refl (subst (λ (q : Request). changes q.ask ≡ true) is change)
              (subst (λ (q : Request). pair_of j ≡ answer_to after.earlier q q.ask) is after.served.pair)
          | inr is ↦
              repaired_pair after.earlier of.call (pair_of j) replica of.there is.1 (subst (λ (q : Request). pair_of j ≡ answer_to after.earlier q q.ask) is.0 after.served.pair)
        ]

    same_pair : (pair other : Pair) → pair ≡ other → IsOfWrite entries other.stamp other.value → IsOfWrite entries pair.stamp pair.value
    same_pair pair other e is = subst (λ (p : Pair). IsOfWrite entries p.stamp p.value) (sym e) is

    by_ask : (j : JournalEntry) (earlier : List JournalEntry) (ask : Ask) → Contains (journal_of journals replica) j → ((i : JournalEntry) → Contains earlier i → Contains (journal_of journals replica) i)
        → j.request.ask ≡ ask → pair_of j ≡ answer_to earlier j.request ask → IsNothingOrOfWrite entries j.reply.stamp j.reply.value
    by_ask j earlier AskRead c there is pair = elim (held_is j.request.key earlier) [
      | inl none ↦ inl (ap (λ (p : Pair). p.stamp) (pair ∙ none.pair), ap (λ (p : Pair). p.value) (pair ∙ none.pair))
      | inr h ↦
          let at = contains_at earlier h.first.place h.entry h.first.there in
          inr (same_pair (pair_of j) (pair_of h.entry) (pair ∙ h.pair) (change_is h.entry (there h.entry at) h.first.counts.change))
    ]
    by_ask j earlier (AskWrite value) c there is pair = inr (change_is j c (ap changes is))
    by_ask j earlier (Repair stamp value) c there is pair = inr (change_is j c (ap changes is))

    -- the pair of each entry is nothing, or what a call wrote
    pub pair_is : (j : JournalEntry) → Contains (journal_of journals replica) j → IsNothingOrOfWrite entries j.reply.stamp j.reply.value
    pair_is j c =
        let after = served_at replica (journal_of journals replica) j (run.served replica) c in
        by_ask j after.earlier j.request.ask c after.there refl after.served.pair
