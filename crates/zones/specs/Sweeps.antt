-- What a sweep over the zones of clusters finds at d.
use Rattle.std.specs.Prelude.{◌≡◌, ℕ, List}
use Rattle.stale_model.specs.declared.Cluster.{Cluster}
use Rattle.stale_model.specs.Clusters.{writes_of}
use Rattle.stale_model.specs.Zones.{HasNoConflict, IsZoneOrder, IsPair, IsPairOf}
use Rattle.zones.specs.declared.Swept.{Swept}
use Rattle.zones.specs.declared.Swept.TheVariants.{Order, Pair}
use Rattle.zones.specs.declared.SweptClusters.{SweptClusters}
use Rattle.zones.specs.declared.SweptClusters.TheVariants.{Order as ClusterOrder, Pair as ClusterPair}
use Rattle.zones.specs.Conflicts.{IsConflict}

-- j is the later one of a pair
abbrev pub IsLaterOfPair : ℕ → List Cluster → Cluster → Type 0
IsLaterOfPair d zones j = (i : Cluster) × IsPair d zones i j

-- i and j are the pair at d, and two of the clusters in conflict
pub record IsPairInConflict (d : ℕ) (clusters : List Cluster) (i j : Cluster) : Type 0 where
  pub pair : IsPairOf d clusters i j
  pub conflict : IsConflict d clusters i j

-- order has the write records of the clusters in the zone order at d
pub record IsOrderOf (d : ℕ) (clusters : List Cluster) (order : List ℕ) : Type 0 where
  pub zones : List Cluster
  pub zone_order : IsZoneOrder d clusters zones
  pub writes : order ≡ writes_of zones

-- the clusters in the zone order where no two are in conflict, else the pair
abbrev pub IsClusterSweep : ℕ → List Cluster → SweptClusters → Type 0
IsClusterSweep d clusters (ClusterOrder zones) = HasNoConflict d clusters × IsZoneOrder d clusters zones
IsClusterSweep d clusters (ClusterPair earlier later) = IsPairInConflict d clusters earlier later

-- the same by write records
abbrev pub IsSweep : ℕ → List Cluster → Swept → Type 0
IsSweep d clusters (Order order) = HasNoConflict d clusters × IsOrderOf d clusters order
IsSweep d clusters (Pair earlier later) = (i : Cluster) × (j : Cluster) × IsPairInConflict d clusters i j × (i.write ≡ earlier) × (j.write ≡ later)
