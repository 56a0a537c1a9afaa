-- A replica, as a caller's contract sees it.
use Rattle.std.specs.Prelude.{ℕ, List}
use Rattle.stale_model.specs.declared.store.JournalEntry.{JournalEntry}

-- a replica: its number, how many keys it has, how many places its journal has, and the journal
pub record ReplicaView : Type 0 where
  pub number : ℕ
  pub keys : ℕ
  pub places : ℕ
  pub journal : List JournalEntry
