-- What is known of a run once its threads have ended and all passes are back.
use Rattle.std.specs.Prelude.{◌≡◌, ℕ, ◌<◌, List, [], ◌∷◌, ◌++◌, length, map, flat_map, Contains, Option, Some, None, slice_get}
use mathlib.Core.List.{IsPrefix}
use Rattle.stale_model.specs.declared.store.Settings.{Settings}
use Rattle.stale_model.specs.declared.store.Plan.{Plan}
use Rattle.stale_model.specs.declared.store.Request.{Request}
use Rattle.stale_model.specs.declared.store.Reply.{Reply}
use Rattle.stale_model.specs.declared.store.JournalEntry.{JournalEntry}
use Rattle.stale_model.specs.declared.store.Entry.{Entry}
use Rattle.stale_model.specs.Journals.{IsJournal}
use Rattle.stale_model.specs.Serving.{served_after}
use Rattle.stale_model.specs.RecordedRuns.{requests_of}
use Rattle.run_laws.specs.Laws.{replies_to, taken_of}
use Rattle.run_laws.specs.Parts.{IsClientShare}
use Rattle.ticket_clock.specs.Seats.{HasNoneTwice}
use Rattle.post_box.specs.Boxes.{letters_of}
use Rattle.quorum_client.specs.declared.letters.Note.TheVariants.{Done}
use Rattle.quorum_client.specs.declared.client.ClientEnd.{ClientEnd}
use Rattle.quorum_client.specs.Letters.{sender_of}
use Rattle.bench_run.specs.declared.job.BenchEnd.{BenchEnd}
use Rattle.bench_run.specs.Jobs.{asked_in, serves_of}
use Rattle.bench_run.specs.Clients.{tickets_of_calls, notes_to}
use Rattle.bench_run.specs.Ends.{sent_by}

-- the end of a client, after these calls
pub record IsClientEnd (s : Settings) (plan : Plan) (client : ℕ) (es : List Entry) (e : ClientEnd) : Type 0 where
  pub share : IsClientShare s plan client es e.taker.taken
  pub drawn : e.seat.drawn ≡ tickets_of_calls es
  pub sent : (replica : ℕ) → replica < s.replicas → sent_by replica e ≡ notes_to replica es ++ Done client ∷ []

-- the end of a replica with so many places
pub record IsReplicaEnd (s : Settings) (places replica : ℕ) (e : BenchEnd) : Type 0 where
  pub done : (client : ℕ) → client < s.clients → Contains e.taker.taken (Done client)
  pub journal : IsJournal replica e.replica.journal
  pub served : requests_of e.replica.journal ≡ served_after s places [] (asked_in e.taker.taken)
  pub drawn : e.seat.drawn ≡ serves_of e.replica.journal

-- what a replica took, as its box tells: of each client a beginning of what it sent, and of clients alone
pub record AreNotesOf (s : Settings) (replica : ℕ) (clients : List ClientEnd) (e : BenchEnd) : Type 0 where
  pub known : (client : ℕ) → 0 < length (letters_of sender_of client e.taker.taken) → client < s.clients
  pub taken : (client : ℕ) → client < s.clients → IsPrefix (letters_of sender_of client e.taker.taken) (letters_of sender_of client (flat_map (sent_by replica) clients))

-- the ends of a run, and what its boxes and its clock tell of them
pub record AreEnds (s : Settings) (plan : Plan) (places : ℕ) (calls : ℕ → List Entry) (clients : List ClientEnd) (replicas : List BenchEnd) (drawn : List ℕ) : Type 0 where
  pub as_many_clients : length clients ≡ s.clients
  pub as_many_replicas : length replicas ≡ s.replicas
  pub client : (k : ℕ) (e : ClientEnd) → slice_get clients k ≡ Some e → IsClientEnd s plan k (calls k) e
  pub replica : (k : ℕ) (e : BenchEnd) → slice_get replicas k ≡ Some e → IsReplicaEnd s places k e
  pub notes : (k : ℕ) (e : BenchEnd) → slice_get replicas k ≡ Some e → AreNotesOf s k clients e
  pub replies : (k c : ℕ) (e : BenchEnd) (d : ClientEnd) → slice_get replicas k ≡ Some e → slice_get clients c ≡ Some d
      → IsPrefix (taken_of k d.taker.taken) (replies_to c e.replica.journal)
  pub drawn_is : drawn ≡ flat_map (λ e. e.seat.drawn) clients ++ flat_map (λ e. e.seat.drawn) replicas
  pub once : HasNoneTwice drawn

-- the replies that a client took
abbrev pub taken_in : Option ClientEnd → List Reply
taken_in (Some e) = e.taker.taken
taken_in None = []

-- the requests that came to a replica
abbrev pub came_in : Option BenchEnd → List Request
came_in (Some e) = asked_in e.taker.taken
came_in None = []

-- the journals of the replicas, in order
abbrev pub journals_of : List BenchEnd → List (List JournalEntry)
journals_of replicas = map (λ e. e.replica.journal) replicas
