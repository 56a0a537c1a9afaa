-- Whose call the request of a journal entry is.
use Rattle.std.proofs.Common.{◌≡◌, ◌⊎◌, ℕ, ◌<◌, Bool, true, false, not, cond, List, [], ◌∷◌, take, sym, ◌∙◌, ap, inl, inr, subst, arith, eq-eqb}
use Rattle.std.specs.Prelude.{◌==◌, Contains}
use Rattle.std.specs.List.{filter, flat_map}
use Rattle.std.proofs.lemmas.Bool.{both_ways, not-true, eqb-true}
use Rattle.std.proofs.lemmas.List.Elements.{All-contains}
use Rattle.stale_model.specs.declared.store.Request.{Request}
use Rattle.stale_model.specs.declared.store.Reply.{Reply}
use Rattle.stale_model.specs.declared.store.JournalEntry.{JournalEntry}
use Rattle.stale_model.specs.declared.store.Entry.{Entry}
use Rattle.stale_model.specs.Orders.{StandsAt}
use Rattle.stale_model.specs.Journals.{is_repair, IsServed, IsJournal}
use Rattle.stale_model.specs.Calls.{request_of, repair_of, repairs, sent_to}
use Rattle.stale_model.specs.RecordedRuns.{served_for, requests_of}
use Rattle.stale_model.proofs.Places.{at_its_place, place_of, same_at}
use Rattle.stale_model.proofs.Sorted.{first_or_later}
use Rattle.stale_model.proofs.Members.{empty_has_none, begun_with, taken_is_there, kept_is_there, kept_passes, kept_from, mapped_from, before_mapped, before_flattened}
use Rattle.run_laws.specs.Laws.{AreCallsOf, TookStandInJournal, replies_to, taken_of}

-- an entry of a journal, with those before it
pub record IsEntryAfter (replica : ℕ) (js : List JournalEntry) (j : JournalEntry) : Type 0 where
  pub earlier : List JournalEntry
  pub served : IsServed replica earlier j
  pub there : (i : JournalEntry) → Contains earlier i → Contains js i
  pub rises : (i : JournalEntry) → Contains earlier i → i.reply.serve < j.reply.serve

-- each entry of a journal is one after those before it
pub served_at : (replica : ℕ) (js : List JournalEntry) (j : JournalEntry) → IsJournal replica js → Contains js j → IsEntryAfter replica js j
served_at replica js j journal c =
    let served = journal c.0 j (at_its_place js j c) in
    record {
      earlier = take c.0 js;
      served = served;
      there = λ i d. taken_is_there c.0 js i d;
      rises = λ i d. All-contains (λ (x : JournalEntry). x.reply.serve < j.reply.serve) (take c.0 js) i served.rises d;
    }

-- a call that sends this request to the replica
pub record IsSentBy (es : List Entry) (q : Request) : Type 0 where
  pub call : Entry
  pub there : Contains es call
  pub request : (q ≡ request_of call) ⊎ (q ≡ repair_of call)

-- what a call sends is its request or its repair
pub sent_cases : (b : Bool) (e : Entry) (q : Request) → Contains (request_of e ∷ cond b (repair_of e ∷ []) []) q → (q ≡ request_of e) ⊎ (q ≡ repair_of e)
sent_cases true e q c = elim (first_or_later (request_of e) q (repair_of e ∷ []) c) [
  | inl is ↦ inl (sym is)
  | inr d ↦ elim (first_or_later (repair_of e) q [] d) [ inl is ↦ inr (sym is) | inr none ↦ absurd (empty_has_none q none) ]
]
sent_cases false e q c = elim (first_or_later (request_of e) q [] c) [ inl is ↦ inl (sym is) | inr none ↦ absurd (empty_has_none q none) ]

module _ (client replica : ℕ) (es : List Entry) (js : List JournalEntry) (requests : requests_of (served_for client js) ≡ flat_map (sent_to replica) es) where
  -- the call that sent the request of a journal entry of the client
  pub sender : (j : JournalEntry) → Contains js j → j.request.client ≡ client → IsSentBy es j.request
  sender j c is =
      let mine = kept_from (λ (i : JournalEntry). i.request.client == client) js j c (eq-eqb j.request.client client is) in
      let sent = rw requests at (mapped_from (λ (i : JournalEntry). i.request) (served_for client js) j mine) in
      let (e, there, here) = before_flattened (sent_to replica) es j.request sent in
      record { call = e; there = there; request = sent_cases (repairs e replica) e j.request here }

  -- two calls of the client with one number are one
  one_call : (d e : Entry) → AreCallsOf client es → Contains es d → Contains es e → d.seq ≡ e.seq → d ≡ e
  one_call d e own cd ce same =
      let (i, di) = place_of es d cd in
      let (k, ek) = place_of es e ce in
      let first = own.numbered i d di in
      let second = own.numbered k e ek in
      let place : i ≡ k = omega arith in
      same_at es k d e (subst (λ (n : ℕ). StandsAt es n d) place di) ek

  -- a journal entry of the client that is no repair, and has the number of a call, is to the request of that call
  pub to_the_call : (j : JournalEntry) (e : Entry) → AreCallsOf client es → Contains js j → j.request.client ≡ client → is_repair j.request.ask ≡ false → Contains es e → j.request.seq ≡ e.seq
      → j.request ≡ request_of e
  to_the_call j e own c is plain there seq =
      let s = sender j c is in
      elim s.request [
        | inl request ↦
            let number : s.call.seq ≡ e.seq = sym (ap (λ (q : Request). q.seq) request) ∙ seq in
            request ∙ ap request_of (one_call s.call e own s.there there number)
        | inr repair ↦ absurd (both_ways (is_repair j.request.ask) plain (ap (λ (q : Request). is_repair q.ask) repair))
      ]

pub took_stand_in_journal : TookStandInJournal
took_stand_in_journal client replica es js taken e l met there took from seq =
    let mine = kept_from (λ (x : Reply). x.replica == replica) taken l took (eq-eqb l.replica replica from) in
    let sent = begun_with (taken_of replica taken) (replies_to client js) l met.replies mine in
    let (j, answered, reply) = before_mapped (λ (i : JournalEntry). i.reply) (filter (λ (i : JournalEntry). not (is_repair i.request.ask)) (served_for client js)) l sent in
    let plain = kept_passes (λ (i : JournalEntry). not (is_repair i.request.ask)) (served_for client js) j answered in
    let of_client = kept_is_there (λ (i : JournalEntry). not (is_repair i.request.ask)) (served_for client js) j answered in
    let in_journal = kept_is_there (λ (i : JournalEntry). i.request.client == client) js j of_client in
    let is = eqb-true j.request.client client (kept_passes (λ (i : JournalEntry). i.request.client == client) js j of_client) in
    let served = (served_at replica js j met.journal in_journal).served in
    let number : j.request.seq ≡ e.seq = sym served.seq ∙ (ap (λ (r : Reply). r.seq) reply ∙ seq) in
    let request = to_the_call client replica es js met.requests j e met.calls in_journal is (not-true (is_repair j.request.ask) plain) there number in
    record {
      entry = j;
      there = in_journal;
      request = request;
      reply = reply;
      client = sym (ap (λ (r : Reply). r.client) reply) ∙ (served.client ∙ ap (λ (q : Request). q.client) request);
      seq = seq;
      after_start =
          let after = served.after_start in
          let start = ap (λ (q : Request). q.start) request in
          let serve = ap (λ (r : Reply). r.serve) reply in
          omega arith;
    }
