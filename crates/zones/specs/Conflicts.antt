-- Conflicts among clusters.
use Rattle.std.specs.Prelude.{◌≢◌, ℕ, List, Contains}
use Rattle.stale_model.specs.declared.Cluster.{Cluster}
use Rattle.stale_model.specs.Zones.{AreInConflict}

-- i and j are two of the clusters, and in conflict at d
pub record IsConflict (d : ℕ) (clusters : List Cluster) (i j : Cluster) : Type 0 where
  pub i_there : Contains clusters i
  pub j_there : Contains clusters j
  pub apart : i.write ≢ j.write
  pub conflict : AreInConflict d i j

-- some two of the clusters are in conflict at d
abbrev pub HasConflict : ℕ → List Cluster → Type 0
HasConflict d clusters = (i : Cluster) × (j : Cluster) × IsConflict d clusters i j
