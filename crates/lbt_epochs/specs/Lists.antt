-- Clusters by their places in three orders, and those of them that are placed.
use Rattle.std.specs.Prelude.{ℕ, ◌==◌, not, Bool, true, List, filter, get_or, length, None, is_some}
use Rattle.std.specs.List.{list_any, range_with_len}
use Rattle.std.specs.List.Sorted.{IsPermutation, IsSorted}
use Rattle.std.specs.declared.cmp.Ordering.{Ordering}
use Rattle.std.specs.Ordering.{nat_cmp, on, then_cmp, flip_args}
use Rattle.stale_model.specs.declared.Cluster.{Cluster}
use Rattle.stale_model.specs.Chains.{candidate_order}
use Rattle.stale_model.specs.Zones.{reads_start}

-- places in three orders, and those that are placed, from the first placed to the last
pub record Lists : Type 0 where
  pub candidates : List ℕ
  pub writes : List ℕ
  pub reads : List ℕ
  pub placed : List ℕ

-- the same orders, with these placed
abbrev pub with_placed : Lists → List ℕ → Lists
with_placed lists placed = record { candidates = lists.candidates; writes = lists.writes; reads = lists.reads; placed = placed }

-- those of the places that are not placed
abbrev pub left : List ℕ → List ℕ → List ℕ
left placed places = filter (λ at. not (list_any (λ other. other == at) placed)) places

-- what a place past the end is read as
abbrev pub no_cluster : Cluster
no_cluster = record { write = 0; f = 0; w = 0; s = None; first = 0; last = 0 }

-- the cluster at a place
abbrev pub cluster_at : List Cluster → ℕ → Cluster
cluster_at clusters at = get_or clusters at no_cluster

-- writes stand by falling start, then by rising record
abbrev pub late_write_order : Cluster → Cluster → Ordering
late_write_order = then_cmp (flip_args (on (λ c. c.w) nat_cmp)) (on (λ c. c.write) nat_cmp)

-- reads stand by falling start of the last read, then by rising record of the write
abbrev pub late_read_order : Cluster → Cluster → Ordering
late_read_order = then_cmp (flip_args (on reads_start nat_cmp)) (on (λ c. c.write) nat_cmp)

-- places are those of the clusters that pass the test, each once, in this order of clusters
pub record ArePlacesBy (clusters : List Cluster) (passes : Cluster → Bool) (order : Cluster → Cluster → Ordering) (places : List ℕ) : Type 0 where
  pub each_once : IsPermutation (filter (λ at. passes (cluster_at clusters at)) (range_with_len 0 (length clusters))) places
  pub sorted : IsSorted (on (cluster_at clusters) order) places

-- the three orders are those of the clusters: the candidates, the latest writes first, and the latest reads first
pub record AreListsOf (clusters : List Cluster) (lists : Lists) : Type 0 where
  pub candidates : ArePlacesBy clusters (λ c. true) candidate_order lists.candidates
  pub writes : ArePlacesBy clusters (λ c. true) late_write_order lists.writes
  pub reads : ArePlacesBy clusters (λ c. is_some c.s) late_read_order lists.reads
