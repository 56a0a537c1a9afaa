-- Runs of the store, worked by hand: what each was asked to do, and what its clients and replicas kept of it.
use Rattle.std.specs.Prelude.{ℕ, List, [], ◌∷◌, ◌++◌, length, take, replicate}
use Rattle.stale_model.specs.declared.Kind.{Kind}
use Rattle.stale_model.specs.declared.Kind.TheVariants.{Read, Write}
use Rattle.stale_model.specs.declared.store.Ask.{Ask}
use Rattle.stale_model.specs.declared.store.Ask.TheVariants.{Read as AskRead, Write as AskWrite, Repair}
use Rattle.stale_model.specs.declared.store.Settings.{Settings}
use Rattle.stale_model.specs.declared.store.PlanCall.{PlanCall}
use Rattle.stale_model.specs.declared.store.Plan.{Plan}
use Rattle.stale_model.specs.declared.store.Request.{Request}
use Rattle.stale_model.specs.declared.store.JournalEntry.{JournalEntry}
use Rattle.stale_model.specs.declared.store.Took.{Took}
use Rattle.stale_model.specs.declared.store.Entry.{Entry}
use Rattle.stale_model.specs.Settings.{AreSettings}
use Rattle.stale_model.specs.Calls.{no_took}
use Rattle.stale_model.specs.RecordedRuns.{IsRecordedRun}

-- a run: what it was asked to do, the calls of its clients, and the journals of its replicas
pub record Run : Type 0 where
  pub settings : Settings
  pub plan : Plan
  pub entries : List Entry
  pub journals : List (List JournalEntry)

-- the settings are within their limits, and the run is a recorded one
pub record IsRecorded (r : Run) : Type 0 where
  pub limits : AreSettings r.settings
  pub run : IsRecordedRun r.settings r.plan r.entries r.journals

-- the run is no recorded one
abbrev pub IsNotRecorded : Run → Type 0
IsNotRecorded r = IsRecordedRun r.settings r.plan r.entries r.journals → ⊥

-- a planned call of key 0, by what it is and the value that it writes
abbrev pub planned : Kind → ℕ → PlanCall
planned kind value = record { kind = kind; key = 0; value = value }

-- a reply that a call took, by replica, serve, stamp and value
abbrev pub taken : ℕ → ℕ → ℕ → ℕ → Took
taken replica serve stamp value = record { replica = replica; serve = serve; stamp = stamp; value = value }

-- a call of key 0, by client, number, kind, value, start, finish and the replies that it took
abbrev pub call : ℕ → ℕ → Kind → ℕ → ℕ → ℕ → List Took → Entry
call client seq kind value start finish ts = record {
  client = client;
  seq = seq;
  kind = kind;
  key = 0;
  value = value;
  start = start;
  finish = finish;
  took = take 7 (ts ++ replicate 7 no_took);
  took_count = length ts;
}

-- a request of a key, by client, number and start
abbrev pub asked_of : ℕ → ℕ → ℕ → ℕ → Ask → Request
asked_of key client seq start ask = record { client = client; seq = seq; start = start; key = key; ask = ask }

-- a request of key 0
abbrev pub asked : ℕ → ℕ → ℕ → Ask → Request
asked client seq start ask = asked_of 0 client seq start ask

-- a request with its reply, by replica, serve, stamp and value
abbrev pub answered : Request → ℕ → ℕ → ℕ → ℕ → JournalEntry
answered q replica serve stamp value = record {
  request = q;
  reply = record { replica = replica; client = q.client; seq = q.seq; serve = serve; stamp = stamp; value = value };
}

-- the first of two writes of one client to one replica
abbrev pub first_write : Entry
first_write = call 0 1 Write 1 1 3 (taken 0 2 1 1 ∷ [])

-- as the replica served it
abbrev pub first_served : JournalEntry
first_served = answered (asked 0 1 1 (AskWrite 1)) 0 2 1 1

-- the second write
abbrev pub second_write : Entry
second_write = call 0 2 Write 2 4 6 (taken 0 5 4 2 ∷ [])

-- as the replica served it
abbrev pub second_served : JournalEntry
second_served = answered (asked 0 2 4 (AskWrite 2)) 0 5 4 2

-- one client, one replica, and two writes
abbrev pub two_writes : Run
two_writes = record {
  settings = record { clients = 1; replicas = 1; calls = 2; keys = 1; read_quorum = 1; write_quorum = 1; writes = 100; seed = 1; shards = 1 };
  plan = record { clients = (planned Write 1 ∷ planned Write 2 ∷ []) ∷ [] };
  entries = first_write ∷ second_write ∷ [];
  journals = (first_served ∷ second_served ∷ []) ∷ [];
}

-- the second write is left out, and no replica served it
abbrev pub call_not_made : Run
call_not_made = record two_writes { entries = first_write ∷ []; journals = (first_served ∷ []) ∷ [] }

-- the second write finishes at the ticket at which it was served
abbrev pub finish_is_the_serve : Run
finish_is_the_serve = record two_writes { entries = first_write ∷ call 0 2 Write 2 4 5 (taken 0 5 4 2 ∷ []) ∷ [] }

-- the journal has nothing of the second write
abbrev pub reply_in_no_journal : Run
reply_in_no_journal = record two_writes { journals = (first_served ∷ []) ∷ [] }

-- the second write was served, and took another stamp than it was sent
abbrev pub stamp_not_as_sent : Run
stamp_not_as_sent = record two_writes { entries = first_write ∷ call 0 2 Write 2 4 6 (taken 0 5 3 2 ∷ []) ∷ [] }

-- the reply to the second write has a stamp that is not its start, and so its call took it
abbrev pub stamp_not_the_start : Run
stamp_not_the_start = record two_writes {
  entries = first_write ∷ call 0 2 Write 2 4 6 (taken 0 5 3 2 ∷ []) ∷ [];
  journals = (first_served ∷ answered (asked 0 2 4 (AskWrite 2)) 0 5 3 2 ∷ []) ∷ [];
}

-- the second write starts before the first finishes
abbrev pub calls_overlap : Run
calls_overlap = record two_writes { entries = call 0 1 Write 1 1 7 (taken 0 2 1 1 ∷ []) ∷ second_write ∷ [] }

-- the reply to the second write is served after the call finished
abbrev pub served_too_late : Run
served_too_late = record two_writes {
  entries = first_write ∷ call 0 2 Write 2 4 5 (taken 0 6 4 2 ∷ []) ∷ [];
  journals = (first_served ∷ answered (asked 0 2 4 (AskWrite 2)) 0 6 4 2 ∷ []) ∷ [];
}

-- a write of client 0, which takes the reply of replica 0 alone
abbrev pub lone_write : Entry
lone_write = call 0 1 Write 1 1 4 (taken 0 3 1 1 ∷ [])

-- a read of client 1, which takes a fresh reply of replica 0 and then an older one of replica 1
abbrev pub late_read : Entry
late_read = call 1 1 Read 1 2 7 (taken 0 5 1 1 ∷ taken 1 6 0 0 ∷ [])

-- replica 0 serves the write, and then the read
abbrev pub fresh_journal : List JournalEntry
fresh_journal = answered (asked 0 1 1 (AskWrite 1)) 0 3 1 1 ∷ answered (asked 1 1 2 AskRead) 0 5 1 1 ∷ []

-- replica 1 serves the read
abbrev pub old_read_served : JournalEntry
old_read_served = answered (asked 1 1 2 AskRead) 1 6 0 0

-- the repair of the read, as a replica serves it
abbrev pub repair_served : ℕ → ℕ → JournalEntry
repair_served replica serve = answered (asked 1 1 7 (Repair 1 1)) replica serve 1 1

-- and last the write, as replica 1 serves it
abbrev pub late_write_served : JournalEntry
late_write_served = answered (asked 0 1 1 (AskWrite 1)) 1 9 1 1

-- two clients, two replicas, a write and a read, which sends a repair to the replica whose reply was older
abbrev pub repaired_read : Run
repaired_read = record {
  settings = record { clients = 2; replicas = 2; calls = 1; keys = 1; read_quorum = 2; write_quorum = 1; writes = 50; seed = 1; shards = 1 };
  plan = record { clients = (planned Write 1 ∷ []) ∷ (planned Read 0 ∷ []) ∷ [] };
  entries = lone_write ∷ late_read ∷ [];
  journals = fresh_journal ∷ (old_read_served ∷ repair_served 1 8 ∷ late_write_served ∷ []) ∷ [];
}

-- the write finishes at the ticket at which the repair is served
abbrev pub ticket_twice : Run
ticket_twice = record repaired_read { entries = call 0 1 Write 1 1 8 (taken 0 3 1 1 ∷ []) ∷ late_read ∷ [] }

-- the read returns the value of the older reply
abbrev pub older_value : Run
older_value = record repaired_read { entries = lone_write ∷ call 1 1 Read 0 2 7 (taken 0 5 1 1 ∷ taken 1 6 0 0 ∷ []) ∷ [] }

-- the repair is left out
abbrev pub repair_not_sent : Run
repair_not_sent = record repaired_read { journals = fresh_journal ∷ (old_read_served ∷ late_write_served ∷ []) ∷ [] }

-- the repair goes to both replicas
abbrev pub repair_to_both : Run
repair_to_both = record repaired_read {
  journals = (fresh_journal ++ repair_served 0 10 ∷ []) ∷ (old_read_served ∷ repair_served 1 8 ∷ late_write_served ∷ []) ∷ [];
}

-- the entries stand by falling start
abbrev pub falling_starts : Run
falling_starts = record repaired_read { entries = late_read ∷ lone_write ∷ [] }

-- the read takes the reply of replica 0 twice, so that none is older and no repair goes out
abbrev pub one_reply_twice : Run
one_reply_twice = record repaired_read {
  entries = lone_write ∷ call 1 1 Read 1 2 7 (taken 0 5 1 1 ∷ taken 0 5 1 1 ∷ []) ∷ [];
  journals = fresh_journal ∷ (old_read_served ∷ late_write_served ∷ []) ∷ [];
}
