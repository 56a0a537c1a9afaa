-- The greatest score of clusters, which serves the proofs alone.
use Rattle.std.specs.Prelude.{◌≢◌, ℕ, ◌≤◌, ◌↔◌, List, Contains}
use Rattle.stale_model.specs.declared.Cluster.{Cluster}
use Rattle.stale_model.specs.Zones.{reads_start}
use Rattle.live_score.specs.declared.places.Place.{Place}
use Rattle.live_score.specs.Places.{score, unbounded}

-- the place of a cluster
abbrev pub place_of : Cluster → Place
place_of c = record { f = c.f; w = c.w; s = reads_start c }

-- the write of a cluster starts no later than its first operation finishes, and no read starts past all ticks
pub record IsTimely (c : Cluster) : Type 0 where
  pub begins : c.w ≤ c.f
  pub fits : reads_start c ≤ unbounded

-- no two of the clusters have a greater score than this
abbrev pub AreWithin : ℕ → List Cluster → Type 0
AreWithin bound clusters = (i j : Cluster) → Contains clusters i → Contains clusters j → i.write ≢ j.write → score (place_of i) (place_of j) ≤ bound

-- d is at most a bound exactly where the score of each two is
abbrev pub IsGreatestScore : List Cluster → ℕ → Type 0
IsGreatestScore clusters d = (bound : ℕ) → (d ≤ bound) ↔ AreWithin bound clusters
