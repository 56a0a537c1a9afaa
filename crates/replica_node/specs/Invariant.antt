-- What is true of the fields of a replica.
use Rattle.std.specs.Prelude.{◌≡◌, ℕ, ◌<◌, ◌≤◌, slice_index_or, vec_len, vec_capacity}
use Rattle.stale_model.specs.Journals.{held, IsJournal}
use Rattle.replica_node.specs.declared.HeldPair.{HeldPair}
use Rattle.replica_node.specs.declared.Replica.TheInside.{Inside}
use Rattle.replica_node.specs.Pairs.{as_pair}

-- of each key it holds what its journal says; the journal is one of this replica, and has room for as many entries as there are places
pub record IsReplica (r : Inside) : Type 0 where
  pub holds : (key : ℕ) (past : HeldPair) → key < vec_len r.held → as_pair (slice_index_or r.held.items key past) ≡ held key r.journal.items
  pub journal : IsJournal r.number r.journal.items
  pub within : vec_len r.journal ≤ r.places
  pub room : r.places ≤ vec_capacity r.journal
