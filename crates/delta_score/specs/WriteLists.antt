-- Lists of write records, in the order of which an order of operations is asked for.
use Rattle.std.specs.Prelude.{◌≡◌, ℕ, List}
use Rattle.std.specs.List.{filter}
use Rattle.std.specs.List.Sorted.{IsPermutation}
use Rattle.stale_model.specs.declared.Op.{Op}
use Rattle.stale_model.specs.declared.Cluster.{Cluster}
use Rattle.stale_model.specs.Operations.{is_write, records_of}
use Rattle.stale_model.specs.Clusters.{AreClusters, writes_of}
use Rattle.stale_model.specs.Zones.{HasNoCrossing}
use Rattle.stale_model.specs.Listings.{IsListing}

-- the record of each write
abbrev pub write_records : List Op → List ℕ
write_records ops = records_of (filter is_write ops)

-- the write records are those of the clusters, in an order in which no cluster crosses an earlier one at d
pub record AreUncrossedWrites (ops : List Op) (d : ℕ) (writes : List ℕ) : Type 0 where
  pub clusters : List Cluster
  pub zones : List Cluster
  pub are : AreClusters ops clusters
  pub each_once : IsPermutation clusters zones
  pub no_crossing : HasNoCrossing d zones
  pub writes_are : writes ≡ writes_of zones

-- the write records are those of the clusters, in the order of a listing at d
pub record AreListedWrites (ops : List Op) (d : ℕ) (writes : List ℕ) : Type 0 where
  pub clusters : List Cluster
  pub listing : List Cluster
  pub are : AreClusters ops clusters
  pub is_listing : IsListing d clusters listing
  pub writes_are : writes ≡ writes_of listing
