-- What there is for any clusters.
use Rattle.std.specs.Prelude.{◌⊎◌, ℕ, List}
use Rattle.stale_model.specs.declared.Cluster.{Cluster}
use Rattle.stale_model.specs.Clusters.{WriteRecordsDiffer}
use Rattle.stale_model.specs.Zones.{HasNoConflict, IsZoneOrder, IsPairOf}

-- there is a zone order of any clusters at each d
abbrev pub ZoneOrdersExist : Type 0
ZoneOrdersExist = (d : ℕ) (clusters : List Cluster) → (zones : List Cluster) × IsZoneOrder d clusters zones

-- there is a pair of clusters whose write records differ, unless no two are in conflict
abbrev pub PairsExist : Type 0
PairsExist = (d : ℕ) (clusters : List Cluster) → WriteRecordsDiffer clusters
    → HasNoConflict d clusters ⊎ ((i : Cluster) × (j : Cluster) × IsPairOf d clusters i j)
