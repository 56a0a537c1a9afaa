-- What is gathered from the operations of a key: its clusters, and the faults of its reads.
use Rattle.std.specs.Prelude.{◌≡◌, ℕ, ◌<◌, List, Option, Some, None, MatchOption}
use Rattle.stale_model.specs.declared.Op.{Op}
use Rattle.stale_model.specs.declared.Cluster.{Cluster}
use Rattle.stale_model.specs.declared.KeyOps.{KeyOps}
use Rattle.stale_model.specs.Operations.{IsRead, operations, latest_finish}
use Rattle.stale_model.specs.Faults.{IsUnmatched, IsEarly, IsLeastRecord, HasNone}
use Rattle.clusters.specs.declared.Gathered.{Gathered}
use Rattle.clusters.specs.declared.Gathered.TheVariants.{Unmatched, Matched}
use Rattle.clusters.specs.Tables.{IsClusterTable}

-- a is a read that has certainly finished before the write of this cluster starts
pub record IsEarlyIn (c : Cluster) (a : Op) : Type 0 where
  pub kind : IsRead a
  pub before : latest_finish a < c.w

-- the early read so far stays the first one; where there is none, it is a, if a is early in its cluster
abbrev pub IsEarlyWith : Option ℕ → Cluster → Op → Option ℕ → Type 0
IsEarlyWith (Some rec) c a first = first ≡ Some rec
IsEarlyWith None c a None = IsEarlyIn c a → ⊥
IsEarlyWith None c a (Some rec) = IsEarlyIn c a × (rec ≡ a.rec)

-- a table of the clusters of a key whose reads all have a write, and the least record of its early reads
pub record IsMatchedTable (key : KeyOps) (table : List (Option Cluster)) (early : Option ℕ) : Type 0 where
  pub clusters : IsClusterTable key table
  pub no_unmatched : HasNone (IsUnmatched (operations key))
  pub first_early : MatchOption early (HasNone (IsEarly (operations key))) (IsLeastRecord (IsEarly (operations key)))

-- the least record of the unmatched reads of a key, or such a table
abbrev pub IsGathering : KeyOps → List (Option Cluster) → Gathered → Type 0
IsGathering key table (Unmatched rec) = IsLeastRecord (IsUnmatched (operations key)) rec
IsGathering key table (Matched early) = IsMatchedTable key table early
