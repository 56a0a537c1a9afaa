-- Tables of clusters: one slot for each value, with the cluster of its write.
use Rattle.std.specs.Prelude.{◌≡◌, ℕ, ◌+◌, List, length, Option, Some, None, slice_get, unwrap_or}
use Rattle.stale_model.specs.declared.Op.{Op}
use Rattle.stale_model.specs.declared.Cluster.{Cluster}
use Rattle.stale_model.specs.declared.KeyOps.{KeyOps}
use Rattle.stale_model.specs.declared.Kind.{Kind}
use Rattle.stale_model.specs.declared.Kind.TheVariants.{Read, Write}
use Rattle.stale_model.specs.Operations.{operations, earliest_start, latest_finish}
use Rattle.stale_model.specs.Faults.{IsWriteOf, IsDuplicateKey}
use Rattle.stale_model.specs.Clusters.{IsClusterOf}
use Rattle.clusters.specs.declared.Writes.{Writes}
use Rattle.clusters.specs.declared.Writes.TheVariants.{Duplicate, Table}

-- the cluster of a write without reads
abbrev pub lone_cluster : Op → Cluster
lone_cluster w = record { write = w.rec; f = latest_finish w; w = earliest_start w; s = None; first = w.rec; last = w.rec }

-- w is the one operation that writes this value
pub record IsOnlyWriteOf (ops : List Op) (value : ℕ) (w : Op) : Type 0 where
  pub write : IsWriteOf ops value w
  pub only : (x : Op) → IsWriteOf ops value x → x ≡ w

-- the slot of a value: nothing where no operation writes it, else what Is says of its one write
abbrev pub IsSlot : (Op → Cluster → Type 0) → List Op → ℕ → Option Cluster → Type 0
IsSlot Is ops value None = (w : Op) → IsWriteOf ops value w → ⊥
IsSlot Is ops value (Some c) = (w : Op) × IsOnlyWriteOf ops value w × Is w c

-- a table of the writes of these operations, with a slot for value 0 and for each of so many others
pub record IsTable (Is : Op → Cluster → Type 0) (ops : List Op) (values : ℕ) (table : List (Option Cluster)) : Type 0 where
  pub size : length table ≡ values + 1
  pub slots : (value : ℕ) (slot : Option Cluster) → slice_get table value ≡ Some slot → IsSlot Is ops value slot

-- w has this cluster as long as no read of it is seen
abbrev pub IsLone : Op → Cluster → Type 0
IsLone w c = c ≡ lone_cluster w

-- a table of the writes of a key, without their reads
abbrev pub IsWriteTable : KeyOps → List (Option Cluster) → Type 0
IsWriteTable key table = IsTable IsLone (operations key) (length key.values) table

-- a table of the clusters of a key
abbrev pub IsClusterTable : KeyOps → List (Option Cluster) → Type 0
IsClusterTable key table = IsTable (IsClusterOf (operations key)) (operations key) (length key.values) table

-- the first duplicate write of a key, or the table of its writes
abbrev pub AreWrites : KeyOps → Writes → Type 0
AreWrites key (Duplicate rec) = IsDuplicateKey (operations key) rec
AreWrites key (Table table) = IsWriteTable key table.items

-- a slot, if the operation is a write
abbrev pub if_write : Kind → Option Cluster → Option Cluster
if_write Read slot = None
if_write Write slot = slot

-- the cluster in the slot of an operation's value, if it is a write
abbrev pub cluster_in : List (Option Cluster) → Op → Option Cluster
cluster_in table a = if_write a.kind (unwrap_or (slice_get table a.value) None)
