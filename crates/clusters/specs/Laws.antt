-- What holds of all sortings.
use Rattle.std.specs.Prelude.{◌≡◌, ◌^◌, ◌<◌, List, length}
use Rattle.stale_model.specs.declared.Op.{Op}
use Rattle.stale_model.specs.declared.KeyOps.{KeyOps}
use Rattle.stale_model.specs.declared.Cluster.{Cluster}
use Rattle.stale_model.specs.Operations.{operations}
use Rattle.stale_model.specs.Valid.{IsValidKey}
use Rattle.stale_model.specs.Clusters.{AreClusters}
use Rattle.clusters.specs.declared.Sorted.{Sorted}
use Rattle.clusters.specs.Sorting.{IsSorting}

-- the same operations are sorted in one way
abbrev pub SortingsAreOne : Type 0
SortingsAreOne = (ops : List Op) (x y : Sorted) → IsSorting ops x → IsSorting ops y → x ≡ y

-- the operations of a valid key are sorted in some way
abbrev pub SortingsExist : Type 0
SortingsExist = (key : KeyOps) → IsValidKey key → (sorted : Sorted) × IsSorting (operations key) sorted

-- a valid key has fewer than 2^32 clusters
abbrev pub ClustersAreFew : Type 0
ClustersAreFew = (key : KeyOps) (clusters : List Cluster) → IsValidKey key → AreClusters (operations key) clusters → length clusters < 2 ^ 32
