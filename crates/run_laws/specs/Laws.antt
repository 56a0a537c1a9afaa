-- Laws of recorded runs, which show that the definitions say what they should.
use Rattle.std.specs.Prelude.{◌≡◌, ℕ, ◌+◌, ◌<◌, ◌≤◌, ◌==◌, ◌⊎◌, true, not, List, [], length, Some, All, Contains, map, filter, flat_map, slice_get}
use mathlib.Core.List.{IsPrefix}
use Rattle.stale_model.specs.declared.Kind.TheVariants.{Read, Write}
use Rattle.stale_model.specs.declared.store.Settings.{Settings}
use Rattle.stale_model.specs.declared.store.Plan.{Plan}
use Rattle.stale_model.specs.declared.store.Request.{Request}
use Rattle.stale_model.specs.declared.store.Reply.{Reply}
use Rattle.stale_model.specs.declared.store.JournalEntry.{JournalEntry}
use Rattle.stale_model.specs.declared.store.Took.{Took}
use Rattle.stale_model.specs.declared.store.Entry.{Entry}
use Rattle.stale_model.specs.Settings.{AreSettings}
use Rattle.stale_model.specs.Journals.{changes, is_repair, nothing, pair_of, held, IsJournal}
use Rattle.stale_model.specs.Calls.{taken_by, freshest, request_of, sent_to}
use Rattle.stale_model.specs.Serving.{answered_to, served_after}
use Rattle.stale_model.specs.RecordedRuns.{served_for, requests_of, IsRecordedRun}

-- x has the greatest rank of those of the list that count, and stands before all others that have it
pub record IsFirstGreatest {X : Type 0} (Counts : X → Type 0) (rank : X → ℕ) (xs : List X) (x : X) : Type 0 where
  pub place : ℕ
  pub there : slice_get xs place ≡ Some x
  pub counts : Counts x
  pub greatest : (k : ℕ) (y : X) → slice_get xs k ≡ Some y → Counts y → rank y ≤ rank x
  pub first : (k : ℕ) (y : X) → k < place → slice_get xs k ≡ Some y → Counts y → rank y < rank x

-- the entry is a write or a repair on this key
pub record IsChangeOf (key : ℕ) (j : JournalEntry) : Type 0 where
  pub key_is : j.request.key ≡ key
  pub change : changes j.request.ask ≡ true

-- no write or repair on the key has a stamp above 0, and nothing is held
pub record HoldsNothing (key : ℕ) (js : List JournalEntry) : Type 0 where
  pub none : (j : JournalEntry) → Contains js j → IsChangeOf key j → j.reply.stamp ≡ 0
  pub pair : held key js ≡ nothing

-- what is held is the pair of the write or repair on the key with the greatest stamp, on a tie of the first
pub record HoldsFirstGreatest (key : ℕ) (js : List JournalEntry) : Type 0 where
  pub entry : JournalEntry
  pub first : IsFirstGreatest (IsChangeOf key) (λ j. j.reply.stamp) js entry
  pub pair : held key js ≡ pair_of entry

-- what is held of a key is the pair with the greatest stamp, or nothing
abbrev pub HeldIsFirstGreatest : Type 0
HeldIsFirstGreatest = (key : ℕ) (js : List JournalEntry) → HoldsNothing key js ⊎ HoldsFirstGreatest key js

-- the freshest of some replies has the greatest stamp, and stands before all others that have it
abbrev pub FreshestIsFirstGreatest : Type 0
FreshestIsFirstGreatest = (ts : List Took) → 1 ≤ length ts → IsFirstGreatest (λ _. Unit {0}) (λ t. t.stamp) ts (freshest ts)

-- the calls of a client, numbered 1, 2, 3 and so on
pub record AreCallsOf (client : ℕ) (es : List Entry) : Type 0 where
  pub client_is : All (λ e. e.client ≡ client) es
  pub numbered : (k : ℕ) (e : Entry) → slice_get es k ≡ Some e → e.seq ≡ k + 1

-- the replies that go out to a client: of what the journal has of it, those to all but repairs
abbrev pub replies_to : ℕ → List JournalEntry → List Reply
replies_to client js = map (λ j. j.reply) (filter (λ j. not (is_repair j.request.ask)) (served_for client js))

-- of the replies that a client took, those of a replica
abbrev pub taken_of : ℕ → List Reply → List Reply
taken_of replica taken = filter (λ l. l.replica == replica) taken

-- a client and a replica at the end of a run: the calls of the client, the journal of the replica, which has what the calls send there, and the replies that
-- the client took, of which those of this replica are a beginning of what it sent
pub record AreCallsServed (client replica : ℕ) (es : List Entry) (js : List JournalEntry) (taken : List Reply) : Type 0 where
  pub calls : AreCallsOf client es
  pub journal : IsJournal replica js
  pub requests : requests_of (served_for client js) ≡ flat_map (sent_to replica) es
  pub replies : IsPrefix (taken_of replica taken) (replies_to client js)

-- the journal has an entry to the request of this call, with this reply
pub record StandsIn (js : List JournalEntry) (e : Entry) (l : Reply) : Type 0 where
  pub entry : JournalEntry
  pub there : Contains js entry
  pub request : entry.request ≡ request_of e
  pub reply : entry.reply ≡ l
  pub client : l.client ≡ e.client
  pub seq : l.seq ≡ e.seq
  pub after_start : e.start < l.serve

-- a reply that a client took of a replica, with the number of one of its calls, stands in the journal of the replica as the reply to that call
abbrev pub TookStandInJournal : Type 0
TookStandInJournal = (client replica : ℕ) (es : List Entry) (js : List JournalEntry) (taken : List Reply) (e : Entry) (l : Reply)
    → AreCallsServed client replica es js taken → Contains es e → Contains taken l → l.replica ≡ replica → l.seq ≡ e.seq
    → StandsIn js e l

-- the initial value: nothing was written
pub record IsInitial (stamp value : ℕ) : Type 0 where
  pub stamp_is : stamp ≡ 0
  pub value_is : value ≡ 0

-- a call wrote the value on the key; the stamp is its start, which is before the moment
pub record IsWritten (entries : List Entry) (key stamp value moment : ℕ) : Type 0 where
  pub write : Entry
  pub there : Contains entries write
  pub kind : write.kind ≡ Write
  pub key_is : write.key ≡ key
  pub value_is : write.value ≡ value
  pub stamp_is : write.start ≡ stamp
  pub before : write.start < moment

-- the initial value, or one that was written on the key before the moment
abbrev pub IsInitialOrWritten : List Entry → ℕ → ℕ → ℕ → ℕ → Type 0
IsInitialOrWritten entries key stamp value moment = IsInitial stamp value ⊎ IsWritten entries key stamp value moment

-- a read of a recorded run returns the initial value, or one that a call wrote on its key that started before the read finished; the greatest stamp that the
-- read took is 0, or that start
abbrev pub ReadsReturnEarlierWrites : Type 0
ReadsReturnEarlierWrites = (settings : Settings) (plan : Plan) (entries : List Entry) (journals : List (List JournalEntry)) (e : Entry)
    → AreSettings settings → IsRecordedRun settings plan entries journals → Contains entries e → e.kind ≡ Read
    → IsInitialOrWritten entries e.key (freshest (taken_by e)).stamp e.value e.finish

-- requests of a run: they are of its clients and keys, there is a place for each, and no client makes more reads and writes than it has calls
pub record AreOfRun (settings : Settings) (places : ℕ) (qs : List Request) : Type 0 where
  pub clients : All (λ q. q.client < settings.clients) qs
  pub keys : All (λ q. q.key < settings.keys) qs
  pub room : length qs ≤ places
  pub calls : (client : ℕ) → length (answered_to client qs) ≤ settings.calls

-- a replica serves all requests of a run, in the order in which they come
abbrev pub ReplicasDropNone : Type 0
ReplicasDropNone = (settings : Settings) (places : ℕ) (qs : List Request) → AreOfRun settings places qs → served_after settings places [] qs ≡ qs
