-- Runs that are written out: what holds place by place, by recursion on the lists, makes them recorded runs.
use Rattle.std.proofs.Common.{◌≡◌, ℕ, zero, suc, ◌+◌, ◌-◌, ◌<◌, false, List, [], ◌∷◌, length, map, take, drop, sym, inl, inr, subst, eqb, arith}
use Rattle.std.specs.Prelude.{◌==◌, Contains, Some, IfSome, flat_map, slice_get, slice_index, slice_index_or}
use Rattle.std.specs.List.{AllByRecursion, IsDistinct, position_or_len}
use Rattle.std.proofs.lemmas.Bool.{cases_order, eqb-true}
use Rattle.std.proofs.lemmas.Option.{same_Some, get_or_from_slice_get}
use Rattle.std.proofs.lemmas.List.{length-map}
use Rattle.std.proofs.lemmas.List.Elements.{All-from_recursion, All-contains, All-weaker, Contains-get_or}
use Rattle.stale_model.specs.declared.Kind.TheVariants.{Read}
use Rattle.stale_model.specs.declared.store.Ask.TheVariants.{Read as AskRead}
use Rattle.stale_model.specs.declared.store.Settings.{Settings}
use Rattle.stale_model.specs.declared.store.JournalEntry.{JournalEntry}
use Rattle.stale_model.specs.declared.store.Took.{Took}
use Rattle.stale_model.specs.declared.store.Entry.{Entry}
use Rattle.stale_model.specs.Settings.{AreSettings, quorum, calls_of}
use Rattle.stale_model.specs.Journals.{is_repair, pair_of, answer_to, IsServed, IsJournal}
use Rattle.stale_model.specs.Calls.{no_took, took_of, taken_by, sent_to}
use Rattle.stale_model.specs.RecordedRuns.{entries_of, journal_of, served_for, requests_of, tickets_of, IsAsPlanned, IsReplyTo, AreTaken, ReadsFreshest, ArePlanned, AreTimed, AreSent}
use Rattle.stale_model.proofs.Places.{contains_at}
use Rattle.stale_model.proofs.Sorted.{no_repeats_from_distinct}
use Rattle.stale_model.proofs.Members.{kept_is_there, kept_passes}
use Rattle.run_laws.specs.Examples.{Run, IsRecorded, planned, asked, answered}

-- a fact of each element holds of what the list contains
by_element : {X : Type 0} (P : X → Type 0) (xs : List X) → AllByRecursion P xs → (x : X) → Contains xs x → P x
by_element P xs h x c = All-contains P xs x (All-from_recursion P xs h) c

-- a fact of each place and its element
abbrev pub AtEach : {X : Type 0} → (ℕ → X → Type 0) → List X → Type 0
AtEach P [] = Unit {0}
AtEach P (x ∷ xs) = P 0 x × AtEach (λ k. P (suc k)) xs

at_each : {X : Type 0} (P : ℕ → X → Type 0) (xs : List X) → AtEach P xs → (k : ℕ) (x : X) → slice_get xs k ≡ Some x → P k x
at_each P [] h k x at = absurd (cc at)
at_each P (y ∷ xs) h zero x at = subst (P 0) (same_Some y x at) h.0
at_each P (y ∷ xs) h (suc k) x at = at_each (λ n. P (suc n)) xs h.1 k x at

-- and one that holds past the end too
at_any : {X : Type 0} (P : ℕ → X → Type 0) (d : X) (xs : List X) → ((k : ℕ) → P k d) → AtEach P xs → (k : ℕ) → P k (slice_index_or xs k d)
at_any P d [] past h k = past k
at_any P d (x ∷ xs) past h zero = h.0
at_any P d (x ∷ xs) past h (suc k) = at_any (λ n. P (suc n)) d xs (λ n. past (suc n)) h.1 k

-- a fact of each number below n
abbrev pub Below : ℕ → (ℕ → Type 0) → Type 0
Below zero P = Unit {0}
Below (suc n) P = P n × Below n P

below : (n : ℕ) (P : ℕ → Type 0) → Below n P → (k : ℕ) → k < n → P k
below zero P h k low = absurd (omega arith)
below (suc n) P h k low = elim (cases_order k n) [
  | inl e ↦ subst P (sym e) h.0
  | inr less ↦ elim less [ inl before ↦ below n P h.1 k before | inr past ↦ absurd (omega arith) ]
]

-- the place of what was served at this ticket
abbrev pub place_at : List JournalEntry → ℕ → ℕ
place_at js serve = position_or_len (λ j. j.reply.serve == serve) js

-- and what was
abbrev pub entry_at : List JournalEntry → ℕ → JournalEntry
entry_at js serve = slice_index_or js (place_at js serve) (answered (asked 0 0 0 AskRead) 0 0 0 0)

-- a reply stands in the journal of its replica, at its ticket
pub record StandsAtItsTicket (journals : List (List JournalEntry)) (e : Entry) (t : Took) : Type 0 where
  pub within : place_at (journal_of journals t.replica) t.serve < length (journal_of journals t.replica)
  pub plain : is_repair (entry_at (journal_of journals t.replica) t.serve).request.ask ≡ false
  pub client : (entry_at (journal_of journals t.replica) t.serve).reply.client ≡ e.client
  pub seq : (entry_at (journal_of journals t.replica) t.serve).reply.seq ≡ e.seq
  pub same : t ≡ took_of (entry_at (journal_of journals t.replica) t.serve).reply
  pub after_start : e.start < t.serve
  pub before_finish : t.serve < e.finish

stands : (journals : List (List JournalEntry)) (e : Entry) (t : Took) → StandsAtItsTicket journals e t → IsReplyTo journals e t
stands journals e t h =
    let js = journal_of journals t.replica in
    let place = place_at js t.serve in
    record {
      entry = entry_at js t.serve;
      there = Contains-get_or js place (answered (asked 0 0 0 AskRead) 0 0 0 0) h.within;
      plain = h.plain;
      client = h.client;
      seq = h.seq;
      same = h.same;
      after_start = h.after_start;
      before_finish = h.before_finish;
    }

-- what a call took, reply by reply
pub record Takes (settings : Settings) (journals : List (List JournalEntry)) (e : Entry) : Type 0 where
  pub count : e.took_count ≡ quorum settings e.kind
  pub many : length (taken_by e) ≡ e.took_count
  pub each : AllByRecursion (StandsAtItsTicket journals e) (taken_by e)
  pub apart : IsDistinct eqb (map (λ t. t.replica) (taken_by e))
  pub others : AllByRecursion (λ t. t ≡ no_took) (drop e.took_count e.took)

takes : (settings : Settings) (journals : List (List JournalEntry)) (e : Entry) → Takes settings journals e → AreTaken settings journals e
takes settings journals e h = record {
  count = h.count;
  many = h.many;
  each = λ t c. stands journals e t (by_element (StandsAtItsTicket journals e) (taken_by e) h.each t c);
  apart = no_repeats_from_distinct (map (λ t. t.replica) (taken_by e)) h.apart;
  others = All-from_recursion (λ t. t ≡ no_took) (drop e.took_count e.took) h.others;
}

-- what a replica served, after these entries
pub record Serves (replica : ℕ) (js : List JournalEntry) (j : JournalEntry) : Type 0 where
  pub rises : AllByRecursion (λ i. i.reply.serve < j.reply.serve) js
  pub after_start : j.request.start < j.reply.serve
  pub replica_is : j.reply.replica ≡ replica
  pub client : j.reply.client ≡ j.request.client
  pub seq : j.reply.seq ≡ j.request.seq
  pub pair : pair_of j ≡ answer_to js j.request j.request.ask

serves : (replica : ℕ) (js : List JournalEntry) (j : JournalEntry) → Serves replica js j → IsServed replica js j
serves replica js j h = record {
  rises = All-from_recursion (λ i. i.reply.serve < j.reply.serve) js h.rises;
  after_start = h.after_start;
  replica_is = h.replica_is;
  client = h.client;
  seq = h.seq;
  pair = h.pair;
}

-- a client made this call as planned
abbrev pub Planned : Run → ℕ → ℕ → Entry → Type 0
Planned r client k e = IsAsPlanned (k + 1) (slice_index_or (calls_of r.plan client) k (planned Read 0)) e

-- and finished it before it started the next
abbrev pub InTurn : Run → ℕ → ℕ → Entry → Type 0
InTurn r client k a = IfSome (slice_get (entries_of client r.entries) (k + 1)) (λ b. a.finish < b.start)

-- a number is less than the next
abbrev pub Rises : List ℕ → ℕ → Type 0
Rises xs k = slice_index xs k < slice_index xs (k + 1)

-- the parts of a recorded run, place by place
pub record HoldsThroughout (r : Run) : Type 0 where
  pub limits : AreSettings r.settings
  pub clients : AllByRecursion (λ e. e.client < r.settings.clients) r.entries
  pub as_many : Below r.settings.clients (λ client. length (entries_of client r.entries) ≡ length (calls_of r.plan client))
  pub each : Below r.settings.clients (λ client. AtEach (Planned r client) (entries_of client r.entries))
  pub rising : Below (length r.entries - 1) (Rises (map (λ e. e.start) r.entries))
  pub ordered : AllByRecursion (λ e. e.start < e.finish) r.entries
  pub in_turn : Below r.settings.clients (λ client. AtEach (InTurn r client) (entries_of client r.entries))
  pub once : IsDistinct eqb (tickets_of r.entries r.journals)
  pub taken : AllByRecursion (Takes r.settings r.journals) r.entries
  pub freshest : AllByRecursion ReadsFreshest r.entries
  pub served : AtEach (λ replica js. AtEach (λ k j. Serves replica (take k js) j) js) r.journals
  pub replicas : length r.journals ≡ r.settings.replicas
  pub senders : AtEach (λ replica js. AllByRecursion (λ j. j.request.client < r.settings.clients) js) r.journals
  pub requests : Below r.settings.replicas (λ replica. Below r.settings.clients (λ client.
      requests_of (served_for client (journal_of r.journals replica)) ≡ flat_map (sent_to replica) (entries_of client r.entries)))

module _ (r : Run) (h : HoldsThroughout r) where
  -- an entry of a client is of one that there is
  there_is : (client k : ℕ) (e : Entry) → slice_get (entries_of client r.entries) k ≡ Some e → client < r.settings.clients
  there_is client k e at =
      let mine = contains_at (entries_of client r.entries) k e at in
      let whose = eqb-true e.client client (kept_passes (λ (x : Entry). x.client == client) r.entries e mine) in
      let there = kept_is_there (λ (x : Entry). x.client == client) r.entries e mine in
      let low = by_element (λ (x : Entry). x.client < r.settings.clients) r.entries h.clients e there in
      omega arith

  are_planned : ArePlanned r.settings r.plan r.entries
  are_planned = record {
    clients = All-from_recursion (λ e. e.client < r.settings.clients) r.entries h.clients;
    as_many = λ client low. below r.settings.clients (λ c. length (entries_of c r.entries) ≡ length (calls_of r.plan c)) h.as_many client low;
    each = λ client k e call at plan.
        let each = below r.settings.clients (λ c. AtEach (Planned r c) (entries_of c r.entries)) h.each client (there_is client k e at) in
        let same = get_or_from_slice_get (calls_of r.plan client) k call (planned Read 0) plan in
        subst (λ p. IsAsPlanned (k + 1) p e) same (at_each (Planned r client) (entries_of client r.entries) each k e at);
  }

  are_timed : AreTimed r.entries r.journals
  are_timed = record {
    rising = λ k low.
        let many = length-map r.entries (λ (e : Entry). e.start) in
        below (length r.entries - 1) (Rises (map (λ e. e.start) r.entries)) h.rising k (omega arith);
    ordered = All-from_recursion (λ e. e.start < e.finish) r.entries h.ordered;
    one_by_one = λ client k a b at next.
        let each = below r.settings.clients (λ c. AtEach (InTurn r c) (entries_of c r.entries)) h.in_turn client (there_is client k a at) in
        subst (λ o. IfSome o (λ b. a.finish < b.start)) next (at_each (InTurn r client) (entries_of client r.entries) each k a at);
    once = no_repeats_from_distinct (tickets_of r.entries r.journals) h.once;
  }

  are_served : (replica : ℕ) → IsJournal replica (journal_of r.journals replica)
  are_served replica k j at =
      let each = at_any (λ n js. AtEach (λ i x. Serves n (take i js) x) js) [] r.journals (λ n. tt) h.served replica in
      let js = journal_of r.journals replica in
      serves replica (take k js) j (at_each (λ i x. Serves replica (take i js) x) js each k j at)

  are_sent : AreSent r.settings r.entries r.journals
  are_sent = record {
    as_many = h.replicas;
    clients = λ replica.
        let each = at_any (λ n js. AllByRecursion (λ j. j.request.client < r.settings.clients) js) [] r.journals (λ n. tt) h.senders replica in
        All-from_recursion (λ j. j.request.client < r.settings.clients) (journal_of r.journals replica) each;
    requests = λ replica client low few.
        let Sent = λ (n c : ℕ). requests_of (served_for c (journal_of r.journals n)) ≡ flat_map (sent_to n) (entries_of c r.entries) in
        let here = below r.settings.replicas (λ n. Below r.settings.clients (Sent n)) h.requests replica low in
        below r.settings.clients (Sent replica) here client few;
  }

  pub recorded : IsRecorded r
  recorded = record {
    limits = h.limits;
    run = record {
      planned = are_planned;
      timed = are_timed;
      taken = All-weaker (Takes r.settings r.journals) (AreTaken r.settings r.journals) (takes r.settings r.journals) r.entries
          (All-from_recursion (Takes r.settings r.journals) r.entries h.taken);
      freshest = All-from_recursion ReadsFreshest r.entries h.freshest;
      served = are_served;
      sent = are_sent;
    };
  }
