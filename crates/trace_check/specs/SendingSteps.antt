-- These definitions serve the code alone: what clients have yet to send to a replica.
use Rattle.std.specs.Prelude.{◌≡◌, ℕ, ◌<◌, Bool, true, false, List, [], ◌∷◌, ◌++◌, length, None, flat_map, drop, slice_index_or, option_to_list}
use Rattle.stale_model.specs.declared.store.Request.{Request}
use Rattle.stale_model.specs.declared.store.JournalEntry.{JournalEntry}
use Rattle.stale_model.specs.declared.store.Entry.{Entry}
use Rattle.stale_model.specs.Calls.{sent_to}
use Rattle.stale_model.specs.RecordedRuns.{served_for, requests_of}
use Rattle.trace_check.specs.declared.judging.sent.Due.{Due}

-- what is due to a replica of a client that makes these calls: a repair, where one is due, and what its calls from a place on send
abbrev pub due_requests : ℕ → List Entry → Due → List Request
due_requests replica calls due = option_to_list due.repair ++ flat_map (sent_to replica) (drop due.place calls)

-- the calls of a client
abbrev pub calls_in : List (List Entry) → ℕ → List Entry
calls_in calls client = slice_index_or calls client []

-- all calls are due
abbrev pub all_due : Due
all_due = record { repair = None; place = 0 }

-- what is due of a client
abbrev pub due_of : ℕ → List (List Entry) → List Due → ℕ → List Request
due_of replica calls due client = due_requests replica (calls_in calls client) (slice_index_or due client all_due)

-- what a journal has of the requests of a client
abbrev pub asked_by : ℕ → List JournalEntry → List Request
asked_by client js = requests_of (served_for client js)

-- a request was the next of its client, and is due no longer
pub record IsTakenFrom (replica : ℕ) (calls : List (List Entry)) (before after : List Due) (q : Request) : Type 0 where
  pub next : due_of replica calls before q.client ≡ q ∷ due_of replica calls after q.client
  pub others : (client : ℕ) → (client ≡ q.client → ⊥) → due_of replica calls after client ≡ due_of replica calls before client

-- whether a request is the next of its client, which then is due no longer
abbrev pub IsNextOf : ℕ → List (List Entry) → List Due → List Due → Request → Bool → Type 0
IsNextOf replica calls before after q true = IsTakenFrom replica calls before after q
IsNextOf replica calls before after q false = (rest : List Request) → due_of replica calls before q.client ≡ q ∷ rest → ⊥

-- whether a journal has of each client the first requests that are due, which then are due no longer
abbrev pub AreFirstOf : ℕ → List (List Entry) → List Due → List Due → List JournalEntry → Bool → Type 0
AreFirstOf replica calls before after js true = (client : ℕ) → client < length calls → due_of replica calls before client ≡ asked_by client js ++ due_of replica calls after client
AreFirstOf replica calls before after js false = ((client : ℕ) → client < length calls → asked_by client js ≡ due_of replica calls before client) → ⊥

-- a journal has of each client what its calls send to the replica
abbrev pub HasAllSent : ℕ → List (List Entry) → List JournalEntry → Type 0
HasAllSent replica calls js = (client : ℕ) → client < length calls → asked_by client js ≡ flat_map (sent_to replica) (calls_in calls client)
