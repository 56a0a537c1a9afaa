-- These definitions serve the code alone: what it knows while it goes through a journal.
use Rattle.std.specs.Prelude.{◌≡◌, ℕ, ◌<◌, ◌≤◌, List, All, Option, Some, None}
use Rattle.std.specs.Ordering.{nat_cmp}
use Rattle.std.specs.BTreeMap as tree
use Rattle.std.specs.BTreeMap.{BTreeMap}
use Rattle.stale_model.specs.declared.store.JournalEntry.{JournalEntry}
use Rattle.stale_model.specs.Journals.{Pair, nothing}
use Rattle.replica_node.specs.declared.HeldPair.{HeldPair}
use Rattle.replica_node.specs.Pairs.{as_pair}

-- a pair that is held, or nothing
abbrev pub pair_or_nothing : Option HeldPair → Pair
pair_or_nothing (Some pair) = as_pair pair
pair_or_nothing None = nothing

-- what is held of a key
abbrev pub held_in : BTreeMap ℕ HeldPair → ℕ → Pair
held_in held key = pair_or_nothing (tree.get nat_cmp held key)

-- the replica may keep the entry after one that was served at `last`, where the reply has to have this pair
pub record MayFollow (replica last : ℕ) (pair : HeldPair) (j : JournalEntry) : Type 0 where
  pub rises : last < j.reply.serve
  pub after_start : j.request.start < j.reply.serve
  pub replica_is : j.reply.replica ≡ replica
  pub client : j.reply.client ≡ j.request.client
  pub seq : j.reply.seq ≡ j.request.seq
  pub stamp : j.reply.stamp ≡ pair.stamp
  pub value : j.reply.value ≡ pair.value

-- the greatest ticket at which these entries were served, 0 where there is none
pub record IsLatest (last : ℕ) (js : List JournalEntry) : Type 0 where
  pub greatest : All (λ j. j.reply.serve ≤ last) js
  pub reached : (ticket : ℕ) → 0 < ticket → All (λ j. j.reply.serve < ticket) js → last < ticket
