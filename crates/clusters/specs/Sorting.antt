-- What the operations of a key are sorted into.
use Rattle.std.specs.Prelude.{List}
use Rattle.stale_model.specs.declared.Op.{Op}
use Rattle.stale_model.specs.Faults.{IsDuplicateKey, IsUnmatchedKey, IsEarlyKey, IsClearKey}
use Rattle.stale_model.specs.Clusters.{AreClusters}
use Rattle.clusters.specs.declared.Sorted.{Sorted}
use Rattle.clusters.specs.declared.Sorted.TheVariants.{Duplicate, Unmatched, Early, Clear}

-- the fault of these operations with its record, and their clusters where each read has one write
abbrev pub IsSorting : List Op → Sorted → Type 0
IsSorting ops (Duplicate rec) = IsDuplicateKey ops rec
IsSorting ops (Unmatched rec) = IsUnmatchedKey ops rec
IsSorting ops (Early rec clusters) = IsEarlyKey ops rec × AreClusters ops clusters
IsSorting ops (Clear clusters) = IsClearKey ops × AreClusters ops clusters
