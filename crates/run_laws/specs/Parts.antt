-- A run by its parts: what each client and each replica has of it at its end.
use Rattle.std.specs.Prelude.{◌≡◌, ℕ, ◌+◌, ◌*◌, ◌<◌, ◌≤◌, ◌==◌, List, [], length, Some, All, Contains, map, filter, flat_map, drop, slice_get}
use Rattle.std.specs.List.{range_with_len}
use Rattle.std.specs.List.Sorted.{IsPermutation, IsNonDecreasingBy}
use mathlib.Core.List.{IsPrefix}
use Rattle.stale_model.specs.declared.store.Settings.{Settings}
use Rattle.stale_model.specs.declared.store.PlanCall.{PlanCall}
use Rattle.stale_model.specs.declared.store.Plan.{Plan}
use Rattle.stale_model.specs.declared.store.Request.{Request}
use Rattle.stale_model.specs.declared.store.Reply.{Reply}
use Rattle.stale_model.specs.declared.store.JournalEntry.{JournalEntry}
use Rattle.stale_model.specs.declared.store.Took.{Took}
use Rattle.stale_model.specs.declared.store.Entry.{Entry}
use Rattle.stale_model.specs.Orders.{IsWithoutRepeats}
use Rattle.stale_model.specs.Settings.{AreSettings, quorum, calls_of}
use Rattle.stale_model.specs.Journals.{IsJournal}
use Rattle.stale_model.specs.Calls.{no_took, took_of, taken_by, sent_to}
use Rattle.stale_model.specs.Serving.{served_after}
use Rattle.stale_model.specs.RecordedRuns.{journal_of, requests_of, tickets_of, IsAsPlanned, ReadsFreshest, IsRecordedRun}
use Rattle.run_laws.specs.Laws.{AreCallsOf, replies_to, taken_of}

-- a reply of a call is one that its client took, to this call, of a replica of the run, served before the call finished
pub record IsFrom (settings : Settings) (taken : List Reply) (e : Entry) (t : Took) : Type 0 where
  pub reply : Reply
  pub there : Contains taken reply
  pub same : t ≡ took_of reply
  pub replica : reply.replica < settings.replicas
  pub seq : reply.seq ≡ e.seq
  pub before_finish : t.serve < e.finish

-- a call took as many of the replies that its client took as its quorum says, of different replicas
pub record AreTakenFrom (settings : Settings) (taken : List Reply) (e : Entry) : Type 0 where
  pub count : e.took_count ≡ quorum settings e.kind
  pub many : length (taken_by e) ≡ e.took_count
  pub each : (t : Took) → Contains (taken_by e) t → IsFrom settings taken e t
  pub apart : IsWithoutRepeats (map (λ t. t.replica) (taken_by e))
  pub others : All (λ t. t ≡ no_took) (drop e.took_count e.took)

-- what a client has of a run: its planned calls, made one after the other, and the replies that it took
pub record IsClientShare (settings : Settings) (plan : Plan) (client : ℕ) (es : List Entry) (taken : List Reply) : Type 0 where
  pub calls : AreCallsOf client es
  pub as_many : length es ≡ length (calls_of plan client)
  pub planned : (k : ℕ) (e : Entry) (call : PlanCall) → slice_get es k ≡ Some e → slice_get (calls_of plan client) k ≡ Some call → IsAsPlanned (k + 1) call e
  pub ordered : All (λ e. e.start < e.finish) es
  pub one_by_one : (k : ℕ) (a b : Entry) → slice_get es k ≡ Some a → slice_get es (k + 1) ≡ Some b → a.finish < b.start
  pub from_taken : All (AreTakenFrom settings taken) es
  pub freshest : All ReadsFreshest es

-- what a replica has of a run: the requests that came to it, all of clients of the run, and its journal of those that it admits
pub record IsReplicaShare (settings : Settings) (places replica : ℕ) (came : List Request) (js : List JournalEntry) : Type 0 where
  pub clients : All (λ q. q.client < settings.clients) came
  pub journal : IsJournal replica js
  pub served : requests_of js ≡ served_after settings places [] came

-- between a client and a replica: all that the client sent has come, and what the client took is a beginning of what the replica sent it
pub record AreJoined (replica client : ℕ) (es : List Entry) (taken : List Reply) (came : List Request) (js : List JournalEntry) : Type 0 where
  pub requests : filter (λ q. q.client == client) came ≡ flat_map (sent_to replica) es
  pub replies : IsPrefix (taken_of replica taken) (replies_to client js)

-- the calls of all clients, one client after the other
abbrev pub all_calls : Settings → (ℕ → List Entry) → List Entry
all_calls settings calls = flat_map calls (range_with_len 0 settings.clients)

-- the parts of a run: the calls and the replies of each client, what came to each replica, and the journals; a replica has as many places as could be asked for
pub record AreParts (settings : Settings) (plan : Plan) (places : ℕ) (calls : ℕ → List Entry) (taken : ℕ → List Reply) (came : ℕ → List Request) (journals : List (List JournalEntry)) : Type 0 where
  pub keys : (client k : ℕ) (call : PlanCall) → slice_get (calls_of plan client) k ≡ Some call → call.key < settings.keys
  pub few : (client : ℕ) → client < settings.clients → length (calls_of plan client) ≤ settings.calls
  pub room : settings.clients * (2 * settings.calls) ≤ places
  pub clients : (client : ℕ) → client < settings.clients → IsClientShare settings plan client (calls client) (taken client)
  pub as_many : length journals ≡ settings.replicas
  pub replicas : (replica : ℕ) → replica < settings.replicas → IsReplicaShare settings places replica (came replica) (journal_of journals replica)
  pub joined : (replica client : ℕ) → replica < settings.replicas → client < settings.clients
      → AreJoined replica client (calls client) (taken client) (came replica) (journal_of journals replica)
  pub once : IsWithoutRepeats (tickets_of (all_calls settings calls) journals)

-- the parts of a run are a recorded run, once the calls stand by rising start
abbrev pub PartsAreRecorded : Type 0
PartsAreRecorded = (settings : Settings) (plan : Plan) (places : ℕ) (calls : ℕ → List Entry) (taken : ℕ → List Reply) (came : ℕ → List Request)
    (journals : List (List JournalEntry)) (entries : List Entry)
    → AreSettings settings → AreParts settings plan places calls taken came journals
    → IsPermutation (all_calls settings calls) entries → IsNonDecreasingBy (λ e. e.start) entries
    → IsRecordedRun settings plan entries journals

-- and their tickets are those of the run
abbrev pub TicketsAreOfParts : Type 0
TicketsAreOfParts = (settings : Settings) (calls : ℕ → List Entry) (journals : List (List JournalEntry)) (entries : List Entry)
    → IsPermutation (all_calls settings calls) entries
    → IsPermutation (tickets_of (all_calls settings calls) journals) (tickets_of entries journals)
