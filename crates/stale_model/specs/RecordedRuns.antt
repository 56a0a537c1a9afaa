-- A recorded run of the store: the calls of its clients, and the journals of its replicas.
use Rattle.std.specs.Prelude.{◌≡◌, ℕ, ◌+◌, ◌<◌, ◌==◌, false, List, [], ◌∷◌, ◌++◌, length, Some, All, Contains, map, filter, flat_map, drop, slice_get, slice_index_or}
use Rattle.std.specs.List.Sorted.{IsStrictlyIncreasing}
use Rattle.stale_model.specs.declared.Kind.TheVariants.{Read, Write}
use Rattle.stale_model.specs.declared.store.Settings.{Settings}
use Rattle.stale_model.specs.declared.store.PlanCall.{PlanCall}
use Rattle.stale_model.specs.declared.store.Plan.{Plan}
use Rattle.stale_model.specs.declared.store.Request.{Request}
use Rattle.stale_model.specs.declared.store.JournalEntry.{JournalEntry}
use Rattle.stale_model.specs.declared.store.Took.{Took}
use Rattle.stale_model.specs.declared.store.Entry.{Entry}
use Rattle.stale_model.specs.Orders.{IsWithoutRepeats}
use Rattle.stale_model.specs.Settings.{quorum, calls_of}
use Rattle.stale_model.specs.Journals.{is_repair, IsJournal}
use Rattle.stale_model.specs.Calls.{no_took, took_of, taken_by, freshest, sent_to}

-- the entries of a client, in their order
abbrev pub entries_of : ℕ → List Entry → List Entry
entries_of client entries = filter (λ e. e.client == client) entries

-- the journal of a replica
abbrev pub journal_of : List (List JournalEntry) → ℕ → List JournalEntry
journal_of journals replica = slice_index_or journals replica []

-- what a journal has of a client, in its order
abbrev pub served_for : ℕ → List JournalEntry → List JournalEntry
served_for client js = filter (λ j. j.request.client == client) js

-- the requests of a journal
abbrev pub requests_of : List JournalEntry → List Request
requests_of js = map (λ j. j.request) js

-- the tickets of a run: the start and the finish of each entry, and each serve of a journal
abbrev pub tickets_of : List Entry → List (List JournalEntry) → List ℕ
tickets_of entries journals = flat_map (λ e. e.start ∷ e.finish ∷ []) entries ++ flat_map (λ js. map (λ j. j.reply.serve) js) journals

-- the entry of the call with this number, as planned
pub record IsAsPlanned (seq : ℕ) (call : PlanCall) (e : Entry) : Type 0 where
  pub seq_is : e.seq ≡ seq
  pub kind : e.kind ≡ call.kind
  pub key : e.key ≡ call.key
  pub value : call.kind ≡ Write → e.value ≡ call.value

-- part 1: each client has made its planned calls, in order, and no others
pub record ArePlanned (settings : Settings) (plan : Plan) (entries : List Entry) : Type 0 where
  pub clients : All (λ e. e.client < settings.clients) entries
  pub as_many : (client : ℕ) → client < settings.clients → length (entries_of client entries) ≡ length (calls_of plan client)
  pub each : (client k : ℕ) (e : Entry) (call : PlanCall) → slice_get (entries_of client entries) k ≡ Some e → slice_get (calls_of plan client) k ≡ Some call
      → IsAsPlanned (k + 1) call e

-- part 2: entries stand by rising start, a client makes one call after the other, and no ticket stands twice
pub record AreTimed (entries : List Entry) (journals : List (List JournalEntry)) : Type 0 where
  pub rising : IsStrictlyIncreasing (map (λ e. e.start) entries)
  pub ordered : All (λ e. e.start < e.finish) entries
  pub one_by_one : (client k : ℕ) (a b : Entry) → slice_get (entries_of client entries) k ≡ Some a → slice_get (entries_of client entries) (k + 1) ≡ Some b
      → a.finish < b.start
  pub once : IsWithoutRepeats (tickets_of entries journals)

-- a reply to this call stands in the journal of its replica, and was served while the call ran
pub record IsReplyTo (journals : List (List JournalEntry)) (e : Entry) (t : Took) : Type 0 where
  pub entry : JournalEntry
  pub there : Contains (journal_of journals t.replica) entry
  pub plain : is_repair entry.request.ask ≡ false
  pub client : entry.reply.client ≡ e.client
  pub seq : entry.reply.seq ≡ e.seq
  pub same : t ≡ took_of entry.reply
  pub after_start : e.start < t.serve
  pub before_finish : t.serve < e.finish

-- part 3: a call took as many replies as its quorum says, of different replicas, each of them given while it ran
pub record AreTaken (settings : Settings) (journals : List (List JournalEntry)) (e : Entry) : Type 0 where
  pub count : e.took_count ≡ quorum settings e.kind
  pub many : length (taken_by e) ≡ e.took_count
  pub each : (t : Took) → Contains (taken_by e) t → IsReplyTo journals e t
  pub apart : IsWithoutRepeats (map (λ t. t.replica) (taken_by e))
  pub others : All (λ t. t ≡ no_took) (drop e.took_count e.took)

-- part 4: a read returns the value of the first reply with the greatest stamp
abbrev pub ReadsFreshest : Entry → Type 0
ReadsFreshest e = e.kind ≡ Read → e.value ≡ (freshest (taken_by e)).value

-- part 6: there is a journal for each replica, and it has of each client what the entries of the client send there, and of nobody else
pub record AreSent (settings : Settings) (entries : List Entry) (journals : List (List JournalEntry)) : Type 0 where
  pub as_many : length journals ≡ settings.replicas
  pub clients : (replica : ℕ) → All (λ j. j.request.client < settings.clients) (journal_of journals replica)
  pub requests : (replica client : ℕ) → replica < settings.replicas → client < settings.clients
      → requests_of (served_for client (journal_of journals replica)) ≡ flat_map (sent_to replica) (entries_of client entries)

-- entries and journals are those of one run of the plan
pub record IsRecordedRun (settings : Settings) (plan : Plan) (entries : List Entry) (journals : List (List JournalEntry)) : Type 0 where
  pub planned : ArePlanned settings plan entries
  pub timed : AreTimed entries journals
  pub taken : All (AreTaken settings journals) entries
  pub freshest : All ReadsFreshest entries
  pub served : (replica : ℕ) → IsJournal replica (journal_of journals replica)
  pub sent : AreSent settings entries journals
