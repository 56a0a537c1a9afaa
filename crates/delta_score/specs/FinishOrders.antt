-- The order of clusters by f, the least latest finish.
use Rattle.std.specs.Prelude.{List}
use Rattle.std.specs.List.Sorted.{IsPermutation, IsNonDecreasingBy}
use Rattle.stale_model.specs.declared.Cluster.{Cluster}

-- f never falls
abbrev pub AreByFinish : List Cluster → Type 0
AreByFinish sorted = IsNonDecreasingBy (λ c. c.f) sorted

-- sorted has the clusters, each once, in the order of f
pub record IsFinishOrder (clusters sorted : List Cluster) : Type 0 where
  pub each_once : IsPermutation clusters sorted
  pub by_finish : AreByFinish sorted
