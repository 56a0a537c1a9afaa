-- Later finishes: the operations of a key with every recorded finish later, and their clusters.
use Rattle.std.specs.Prelude.{ℕ, ◌+◌, ◌<◌, ◌≤◌, ◌==◌, if◌then◌else◌, List, map, Contains, All}
use Rattle.stale_model.specs.declared.Op.{Op}
use Rattle.stale_model.specs.declared.Cluster.{Cluster}
use Rattle.stale_model.specs.Zones.{HasNoConflict}

-- the operation with its finish later by t; the initial write stays
abbrev pub raised : ℕ → Op → Op
raised t a = record { rec = a.rec; client = a.client; kind = a.kind; value = a.value; start = a.start; finish = if a.rec == 0 then a.finish else a.finish + t; slack = a.slack }

-- the operations with every recorded finish later by t
abbrev pub raised_ops : ℕ → List Op → List Op
raised_ops t ops = map (raised t) ops

-- the cluster with its f later by t; that of the initial write stays
abbrev pub raised_cluster : ℕ → Cluster → Cluster
raised_cluster t c = record { write = c.write; f = if c.write == 0 then c.f else c.f + t; w = c.w; s = c.s; first = c.first; last = c.last }

-- the clusters with f later by t
abbrev pub raised_clusters : ℕ → List Cluster → List Cluster
raised_clusters t clusters = map (raised_cluster t) clusters

-- some cluster has an operation that ends before its write starts
abbrev pub HasEarlyCluster : List Cluster → Type 0
HasEarlyCluster clusters = (c : Cluster) × Contains clusters c × (c.f < c.w)

-- at this raise no cluster is early, and no two are in conflict at 0
pub record IsFreeAt (t : ℕ) (clusters : List Cluster) : Type 0 where
  pub in_turn : All (λ c. c.w ≤ c.f) (raised_clusters t clusters)
  pub no_conflict : HasNoConflict 0 (raised_clusters t clusters)

-- the least raise from which on the clusters are free; at each lesser one some cluster is early, or some two are in conflict
pub record IsGap (clusters : List Cluster) (gap : ℕ) : Type 0 where
  pub free : (t : ℕ) → gap ≤ t → IsFreeAt t clusters
  pub least : (t : ℕ) → t < gap → IsFreeAt t clusters → ⊥
