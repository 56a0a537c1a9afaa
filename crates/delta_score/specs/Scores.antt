-- The least d at which no two clusters are in conflict, and what shows that it is the least.
use Rattle.std.specs.Prelude.{ℕ, ◌<◌, ◌≤◌, List}
use Rattle.stale_model.specs.declared.Cluster.{Cluster}
use Rattle.stale_model.specs.Zones.{HasNoConflict}
use Rattle.stale_model.specs.PrintedVerdicts.{IsPrintedFour}
use Rattle.zones.specs.Conflicts.{HasConflict}
use Rattle.zones.specs.Sweeps.{IsOrderOf}
use Rattle.delta_score.specs.declared.least.Least.{Least}
use Rattle.delta_score.specs.declared.least.Bounds.{Bounds}

-- delta is the least d at which no two of the clusters are in conflict
pub record IsLeastWithoutConflict (clusters : List Cluster) (delta : ℕ) : Type 0 where
  pub apart : HasNoConflict delta clusters
  pub least : (e : ℕ) → e < delta → HasConflict e clusters

-- the least d without conflict, the zone order at it, and the four records of the pair just below it
pub record IsLeast (clusters : List Cluster) (least : Least) : Type 0 where
  pub delta : IsLeastWithoutConflict clusters least.delta
  pub order : IsOrderOf least.delta clusters least.order
  pub refuter : IsPrintedFour clusters least.delta least.refuter

-- the least d without conflict lies between these bounds
pub record AreBounds (clusters : List Cluster) (bounds : Bounds) : Type 0 where
  pub below : (e : ℕ) → e < bounds.low → HasConflict e clusters
  pub above : HasNoConflict bounds.high clusters

-- the new bounds lie between the old ones, and d no longer lies between them
pub record IsNarrowed (d : ℕ) (old new : Bounds) : Type 0 where
  pub low : old.low ≤ new.low
  pub high : new.high ≤ old.high
  pub decided : d < new.high → d < new.low
