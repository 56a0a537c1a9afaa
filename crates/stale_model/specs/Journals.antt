-- A replica: what it holds of a key, and what its journal says of each request.
use Rattle.std.specs.Prelude.{◌≡◌, ℕ, ◌<◌, ◌==◌, ◌&&◌, Bool, true, false, nat_lt, if◌then◌else◌, List, [], ◌∷◌, Some, All, take, slice_get}
use Rattle.stale_model.specs.declared.store.Ask.{Ask}
use Rattle.stale_model.specs.declared.store.Ask.TheVariants.{Read, Write, Repair}
use Rattle.stale_model.specs.declared.store.Request.{Request}
use Rattle.stale_model.specs.declared.store.JournalEntry.{JournalEntry}

-- a stamp and a value: the start of a write, and what it wrote
pub record Pair : Type 0 where
  pub stamp : ℕ
  pub value : ℕ

-- what is held of a key that nobody wrote
abbrev pub nothing : Pair
nothing = record { stamp = 0; value = 0 }

-- whether a request changes what is held: a write or a repair
abbrev pub changes : Ask → Bool
changes Read = false
changes (Write value) = true
changes (Repair stamp value) = true

-- whether a request is a repair
abbrev pub is_repair : Ask → Bool
is_repair Read = false
is_repair (Write value) = false
is_repair (Repair stamp value) = true

-- the pair of a reply
abbrev pub pair_of : JournalEntry → Pair
pair_of j = record { stamp = j.reply.stamp; value = j.reply.value }

-- the greater stamp wins, on a tie the earlier pair
abbrev pub newer : Pair → Pair → Pair
newer held next = if nat_lt held.stamp next.stamp then next else held

-- what is held of a key after these entries, where this pair was held before
abbrev pub held_after : Pair → ℕ → List JournalEntry → Pair
held_after pair key [] = pair
held_after pair key (j ∷ js) = held_after (if (j.request.key == key) && changes j.request.ask then newer pair (pair_of j) else pair) key js

-- what is held of a key: of the writes and repairs on it, the pair with the greatest stamp, on a tie the earliest
abbrev pub held : ℕ → List JournalEntry → Pair
held key js = held_after nothing key js

-- the pair that a request gets as its reply after these entries
abbrev pub answer_to : List JournalEntry → Request → Ask → Pair
answer_to js q Read = held q.key js
answer_to js q (Write value) = record { stamp = q.start; value = value }
answer_to js q (Repair stamp value) = record { stamp = stamp; value = value }

-- the entry that this replica may keep after these entries
pub record IsServed (replica : ℕ) (js : List JournalEntry) (j : JournalEntry) : Type 0 where
  pub rises : All (λ i. i.reply.serve < j.reply.serve) js
  pub after_start : j.request.start < j.reply.serve
  pub replica_is : j.reply.replica ≡ replica
  pub client : j.reply.client ≡ j.request.client
  pub seq : j.reply.seq ≡ j.request.seq
  pub pair : pair_of j ≡ answer_to js j.request j.request.ask

-- the journal of this replica: each entry is as it may be after those before it
abbrev pub IsJournal : ℕ → List JournalEntry → Type 0
IsJournal replica js = (k : ℕ) (j : JournalEntry) → slice_get js k ≡ Some j → IsServed replica (take k js) j
