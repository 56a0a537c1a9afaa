-- The parts of a run are a recorded run.
use Rattle.std.proofs.Common.{◌≡◌, ℕ, ◌+◌, ◌*◌, ◌<◌, ◌≤◌, Bool, true, false, not, cond, List, [], ◌∷◌, length, map, filter, refl, sym, ◌∙◌, ap, inl, inr, subst, arith, eq-eqb}
use Rattle.std.specs.Prelude.{◌==◌, All, Contains, Some, flat_map, slice_get}
use Rattle.std.specs.List.Sorted.{IsPermutation, IsNonDecreasingBy, IsStrictlyIncreasing}
use Rattle.std.proofs.lemmas.Bool.{eqb-true, cases_lt}
use Rattle.std.proofs.lemmas.List.{get_or_past}
use Rattle.std.proofs.lemmas.List.Elements.{All-nil, All-contains}
use Rattle.std.proofs.lemmas.List.Sorted.{Contains-permutation, IsPermutation-sym}
use Rattle.std.proofs.lemmas.Option.{slice_get_within}
use Rattle.stale_model.specs.declared.Kind.{Kind}
use Rattle.stale_model.specs.declared.Kind.TheVariants.{Read, Write}
use Rattle.stale_model.specs.declared.store.Settings.{Settings}
use Rattle.stale_model.specs.declared.store.Plan.{Plan}
use Rattle.stale_model.specs.declared.store.Request.{Request}
use Rattle.stale_model.specs.declared.store.Reply.{Reply}
use Rattle.stale_model.specs.declared.store.JournalEntry.{JournalEntry}
use Rattle.stale_model.specs.declared.store.Took.{Took}
use Rattle.stale_model.specs.declared.store.Entry.{Entry}
use Rattle.stale_model.specs.Orders.{IsWithoutRepeats}
use Rattle.stale_model.specs.Settings.{calls_of}
use Rattle.stale_model.specs.Journals.{is_repair, IsJournal}
use Rattle.stale_model.specs.Calls.{took_of, ask_of, request_of, repair_of, repairs, sent_to}
use Rattle.stale_model.specs.Serving.{answered_to}
use Rattle.stale_model.specs.RecordedRuns.{entries_of, journal_of, served_for, requests_of, tickets_of, IsReplyTo, AreTaken, ReadsFreshest, ArePlanned, AreTimed, AreSent, IsRecordedRun}
use Rattle.stale_model.proofs.Growing.{empty_journal}
use Rattle.stale_model.proofs.Members.{kept_is_there, kept_passes, kept_from, mapped_from, before_flattened}
use Rattle.stale_model.proofs.Places.{contains_at, place_of, something_at}
use Rattle.run_laws.specs.Laws.{AreCallsServed}
use Rattle.run_laws.specs.Parts.{IsFrom, AreTakenFrom, IsClientShare, all_calls, AreParts, PartsAreRecorded}
use Rattle.run_laws.proofs.Admitted.{replicas_drop_none}
use Rattle.run_laws.proofs.Counted.{all_there, empty_list, kept_twice, kept_mapped, flattened_not_longer, one_of_each, before_lists, of_each_list, not_more}
use Rattle.run_laws.proofs.Permuted.{permuted_numbers}
use Rattle.run_laws.proofs.Rising.{rising_kept, rising_one, rising_from_apart, rising_in_turn}
use Rattle.run_laws.proofs.Senders.{sent_cases, took_stand_in_journal}
use Rattle.run_laws.proofs.Tickets.{starts_apart, tickets_of_parts}

-- what a call asks is no repair
asks_no_repair : (kind : Kind) (value : ℕ) → is_repair (ask_of kind value) ≡ false
asks_no_repair Read value = refl
asks_no_repair Write value = refl

-- whether a request is a read or a write
abbrev is_plain : Request → Bool
is_plain q = not (is_repair q.ask)

-- a call sends one request or two to a replica
two_at_most : (b : Bool) (q r : Request) → length (q ∷ cond b (r ∷ []) []) ≤ 2
two_at_most true q r = omega arith
two_at_most false q r = omega arith

-- and one of them is a read or a write
one_plain : (b : Bool) (e : Entry) → length (filter is_plain (request_of e ∷ cond b (repair_of e ∷ []) [])) ≡ 1
one_plain true e = rw (asks_no_repair e.kind e.value) refl
one_plain false e = rw (asks_no_repair e.kind e.value) refl

-- what a call sends is on its key
sent_key : (replica : ℕ) (e : Entry) (q : Request) → Contains (sent_to replica e) q → q.key ≡ e.key
sent_key replica e q c = elim (sent_cases (repairs e replica) e q c) [
  | inl is ↦ ap (λ (r : Request). r.key) is
  | inr is ↦ ap (λ (r : Request). r.key) is
]

-- of what a client has, its calls rise by their starts
share_rises : (settings : Settings) (plan : Plan) (client : ℕ) (es : List Entry) (taken : List Reply) → IsClientShare settings plan client es taken → IsStrictlyIncreasing (map (λ e. e.start) es)
share_rises settings plan client es taken share = rising_in_turn (λ (e : Entry). e.start) (λ (e : Entry). e.finish) es share.ordered share.one_by_one

module _ (settings : Settings) (plan : Plan) (places : ℕ) (calls : ℕ → List Entry) (taken : ℕ → List Reply) (came : ℕ → List Request) (journals : List (List JournalEntry))
    (parts : AreParts settings plan places calls taken came journals) where
  -- a call of a client is on a key of the run
  call_key : (client : ℕ) (e : Entry) → client < settings.clients → Contains (calls client) e → e.key < settings.keys
  call_key client e low c =
      let share = parts.clients client low in
      let (k, at) = place_of (calls client) e c in
      let within = slice_get_within (calls client) k e at in
      let many = share.as_many in
      let (call, is) = something_at (calls_of plan client) k (omega arith) in
      let key = (share.planned k e call at is).key in
      let few = parts.keys client k call is in
      omega arith

  module _ (replica : ℕ) (there : replica < settings.replicas) where
    -- what came of a client
    abbrev of_client : ℕ → List Request
    of_client client = filter (λ q. q.client == client) (came replica)

    -- is what its calls sent
    sent_there : (client : ℕ) → client < settings.clients → of_client client ≡ flat_map (sent_to replica) (calls client)
    sent_there client low = (parts.joined replica client there low).requests

    -- each request that came is of a client of the run, and on a key of the run
    client_there : (q : Request) → Contains (came replica) q → q.client < settings.clients
    client_there q c = All-contains (λ (r : Request). r.client < settings.clients) (came replica) q (parts.replicas replica there).clients c

    key_there : (q : Request) → Contains (came replica) q → q.key < settings.keys
    key_there q c =
        let low = client_there q c in
        let mine = rw (sent_there q.client low) at (kept_from (λ (r : Request). r.client == q.client) (came replica) q c (eq-eqb q.client q.client refl)) in
        let (e, call, sent) = before_flattened (sent_to replica) (calls q.client) q mine in
        let key = sent_key replica e q sent in
        let few = call_key q.client e low call in
        omega arith

    -- a client has as many calls as the plan says, which are at most those that each client makes
    few_calls : (client : ℕ) → client < settings.clients → length (calls client) ≤ settings.calls
    few_calls client low =
        let many = (parts.clients client low).as_many in
        let few = parts.few client low in
        omega arith

    -- of each client there came at most two requests for each of its calls
    few_sent : (client : ℕ) → client < settings.clients → length (of_client client) ≤ 2 * settings.calls
    few_sent client low =
        let sent = ap (λ (l : List Request). length l) (sent_there client low) in
        let few = few_calls client low in
        let most = flattened_not_longer (sent_to replica) 2 (calls client) (λ e. two_at_most (repairs e replica) (request_of e) (repair_of e)) in
        omega arith

    -- so there is a place for each
    few_came : length (came replica) ≤ places
    few_came =
        let most = not_more (λ (q : Request). q.client) settings.clients (2 * settings.calls) (came replica) (parts.replicas replica there).clients few_sent in
        let room = parts.room in
        omega arith

    -- the reads and writes of a client are those of what came of it
    answered : (client : ℕ) → answered_to client (came replica) ≡ filter is_plain (of_client client)
    answered client = kept_twice (λ (q : Request). q.client == client) is_plain (came replica)

    -- and are no more than each client makes calls
    few_answered : (client : ℕ) → length (answered_to client (came replica)) ≤ settings.calls
    few_answered client = elim (cases_lt client settings.clients) [
      | inl low ↦
          let plain = ap (λ (l : List Request). length l) (answered client) in
          let sent = ap (λ (l : List Request). length (filter is_plain l)) (sent_there client low) in
          let one = one_of_each (sent_to replica) is_plain (calls client) (λ e. one_plain (repairs e replica) e) in
          let few = few_calls client low in
          omega arith
      | inr past ↦
          let none = empty_list (of_client client) (λ q c.
          let is = eqb-true q.client client (kept_passes (λ (r : Request). r.client == client) (came replica) q c) in
          let low = client_there q (kept_is_there (λ (r : Request). r.client == client) (came replica) q c) in
          omega arith) in
          let empty = ap (λ (l : List Request). length (filter is_plain l)) none in
          let plain = ap (λ (l : List Request). length l) (answered client) in
          omega arith
    ]

    -- a replica serves all that came to it
    served_all : requests_of (journal_of journals replica) ≡ came replica
    served_all = (parts.replicas replica there).served ∙ replicas_drop_none settings places (came replica) (record {
      clients = (parts.replicas replica there).clients;
      keys = all_there (λ (q : Request). q.key < settings.keys) (came replica) key_there;
      room = few_came;
      calls = few_answered;
    })

    -- so its journal has of each client what the client sent
    served_as_sent : (client : ℕ) → client < settings.clients → requests_of (served_for client (journal_of journals replica)) ≡ flat_map (sent_to replica) (calls client)
    served_as_sent client low =
        sym (kept_mapped (λ (q : Request). q.client == client) (λ (j : JournalEntry). j.request) (journal_of journals replica))
        ∙ (ap (filter (λ (q : Request). q.client == client)) served_all ∙ sent_there client low)

    -- and a client and a replica are at the end of a run
    are_served : (client : ℕ) → client < settings.clients → AreCallsServed client replica (calls client) (journal_of journals replica) (taken client)
    are_served client low = record {
      calls = (parts.clients client low).calls;
      journal = (parts.replicas replica there).journal;
      requests = served_as_sent client low;
      replies = (parts.joined replica client there low).replies;
    }

    -- each entry of a journal is of a client of the run
    of_a_client : (j : JournalEntry) → Contains (journal_of journals replica) j → j.request.client < settings.clients
    of_a_client j c =
        let request = mapped_from (λ (i : JournalEntry). i.request) (journal_of journals replica) j c in
        client_there j.request (subst (λ (l : List Request). Contains l j.request) served_all request)

  -- past the last replica there are no entries
  no_journal : (replica : ℕ) → settings.replicas ≤ replica → journal_of journals replica ≡ []
  no_journal replica past = let many = parts.as_many in get_or_past journals replica [] (omega arith)

  -- what each replica has is a journal
  each_journal : (replica : ℕ) → IsJournal replica (journal_of journals replica)
  each_journal replica = elim (cases_lt replica settings.replicas) [
    | inl low ↦ (parts.replicas replica low).journal
    | inr past ↦ subst (IsJournal replica) (sym (no_journal replica past)) (empty_journal replica)
  ]

  -- of clients of the run
  each_client : (replica : ℕ) → All (λ j. j.request.client < settings.clients) (journal_of journals replica)
  each_client replica = elim (cases_lt replica settings.replicas) [
    | inl low ↦ all_there (λ (j : JournalEntry). j.request.client < settings.clients) (journal_of journals replica) (of_a_client replica low)
    | inr past ↦ subst (All (λ (j : JournalEntry). j.request.client < settings.clients)) (sym (no_journal replica past)) (All-nil (λ (j : JournalEntry). j.request.client < settings.clients))
  ]

  -- a reply that a call took stands in the journal of its replica
  reply_stands : (client : ℕ) (e : Entry) (t : Took) → client < settings.clients → Contains (calls client) e → IsFrom settings (taken client) e t → IsReplyTo journals e t
  reply_stands client e t low c from =
      let l = from.reply in
      let stands = took_stand_in_journal client l.replica (calls client) (journal_of journals l.replica) (taken client) e l (are_served l.replica from.replica client low) c from.there refl from.seq in
      let replica : l.replica ≡ t.replica = sym (ap (λ (x : Took). x.replica) from.same) in
      let serve : t.serve ≡ l.serve = ap (λ (x : Took). x.serve) from.same in
      record {
        entry = stands.entry;
        there = subst (λ (n : ℕ). Contains (journal_of journals n) stands.entry) replica stands.there;
        plain = ap (λ (q : Request). is_repair q.ask) stands.request ∙ asks_no_repair e.kind e.value;
        client = ap (λ (x : Reply). x.client) stands.reply ∙ stands.client;
        seq = ap (λ (x : Reply). x.seq) stands.reply ∙ stands.seq;
        same = from.same ∙ ap took_of (sym stands.reply);
        after_start = let after = stands.after_start in omega arith;
        before_finish = from.before_finish;
      }

  -- so a call took what it says
  took : (client : ℕ) (e : Entry) → client < settings.clients → Contains (calls client) e → AreTaken settings journals e
  took client e low c =
      let h = All-contains (AreTakenFrom settings (taken client)) (calls client) e (parts.clients client low).from_taken c in
      record {
        count = h.count;
        many = h.many;
        each = λ t d. reply_stands client e t low c (h.each t d);
        apart = h.apart;
        others = h.others;
      }

  module _ (entries : List Entry) (same : IsPermutation (all_calls settings calls) entries) (up : IsNonDecreasingBy (λ e. e.start) entries) where
    -- an entry is a call of its client
    record IsCall (e : Entry) : Type 0 where
      low : e.client < settings.clients
      there : Contains (calls e.client) e

    is_call : (e : Entry) → Contains entries e → IsCall e
    is_call e c =
        let among = Contains-permutation entries (all_calls settings calls) e (IsPermutation-sym (all_calls settings calls) entries same) c in
        let (client, low, here) = before_lists calls settings.clients e among in
        let is = All-contains (λ (x : Entry). x.client ≡ client) (calls client) e (parts.clients client low).calls.client_is here in
        record { low = omega arith; there = subst (λ (n : ℕ). Contains (calls n) e) (sym is) here }

    -- and a call of each client is an entry
    is_entry : (client : ℕ) (e : Entry) → client < settings.clients → Contains (calls client) e → Contains entries e
    is_entry client e low c =
        Contains-permutation (all_calls settings calls) entries e same (of_each_list calls settings.clients client e low c)

    -- no ticket stands twice
    once : IsWithoutRepeats (tickets_of entries journals)
    once = permuted_numbers (tickets_of (all_calls settings calls) journals) (tickets_of entries journals) (tickets_of_parts settings calls journals entries same) parts.once

    -- entries stand by rising start, and no two have one
    rising : IsStrictlyIncreasing (map (λ e. e.start) entries)
    rising = rising_from_apart (λ (e : Entry). e.start) entries up (starts_apart entries journals once)

    -- the entries of a client are its calls
    own : (client : ℕ) → client < settings.clients → entries_of client entries ≡ calls client
    own client low =
        let mine : Entry → Bool = λ x. x.client == client in
        rising_one (λ (e : Entry). e.start) (entries_of client entries) (calls client) (rising_kept (λ (e : Entry). e.start) mine entries rising)
        (share_rises settings plan client (calls client) (taken client) (parts.clients client low))
        (λ e c.
        let is = eqb-true e.client client (kept_passes mine entries e c) in
        subst (λ (n : ℕ). Contains (calls n) e) is (is_call e (kept_is_there mine entries e c)).there)
        (λ e c.
        let is = All-contains (λ (x : Entry). x.client ≡ client) (calls client) e (parts.clients client low).calls.client_is c in
        kept_from mine entries e (is_entry client e low c) (eq-eqb e.client client is))

    -- only a client of the run has entries
    client_at : (client k : ℕ) (e : Entry) → slice_get (entries_of client entries) k ≡ Some e → client < settings.clients
    client_at client k e at =
        let mine = contains_at (entries_of client entries) k e at in
        let is = eqb-true e.client client (kept_passes (λ (x : Entry). x.client == client) entries e mine) in
        let low = (is_call e (kept_is_there (λ (x : Entry). x.client == client) entries e mine)).low in
        omega arith

    are_planned : ArePlanned settings plan entries
    are_planned = record {
      clients = all_there (λ (e : Entry). e.client < settings.clients) entries (λ e c. (is_call e c).low);
      as_many = λ client low. ap (λ (l : List Entry). length l) (own client low) ∙ (parts.clients client low).as_many;
      each = λ client k e call at is.
          let low = client_at client k e at in
          (parts.clients client low).planned k e call (subst (λ (l : List Entry). slice_get l k ≡ Some e) (own client low) at) is;
    }

    are_timed : AreTimed entries journals
    are_timed = record {
      rising = rising;
      ordered = all_there (λ (e : Entry). e.start < e.finish) entries (λ e c.
          let call = is_call e c in
          All-contains (λ (x : Entry). x.start < x.finish) (calls e.client) e (parts.clients e.client call.low).ordered call.there);
      one_by_one = λ client k a b at next.
          let low = client_at client k a at in
          (parts.clients client low).one_by_one k a b (subst (λ (l : List Entry). slice_get l k ≡ Some a) (own client low) at) (subst (λ (l : List Entry). slice_get l (k + 1) ≡ Some b) (own client low) next);
      once = once;
    }

    are_sent : AreSent settings entries journals
    are_sent = record {
      as_many = parts.as_many;
      clients = each_client;
      requests = λ replica client there low. served_as_sent replica there client low ∙ ap (flat_map (sent_to replica)) (sym (own client low));
    }

    is_recorded : IsRecordedRun settings plan entries journals
    is_recorded = record {
      planned = are_planned;
      timed = are_timed;
      taken = all_there (AreTaken settings journals) entries (λ e c. let call = is_call e c in took e.client e call.low call.there);
      freshest = all_there ReadsFreshest entries (λ e c.
          let call = is_call e c in
          All-contains ReadsFreshest (calls e.client) e (parts.clients e.client call.low).freshest call.there);
      served = each_journal;
      sent = are_sent;
    }

pub parts_are_recorded : PartsAreRecorded
parts_are_recorded settings plan places calls taken came journals entries limits parts same up = is_recorded settings plan places calls taken came journals parts entries same up
