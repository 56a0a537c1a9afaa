-- The least d with a listing, by halving.
use Rattle.std.specs.Prelude.{ℕ, ◌<◌, List}
use Rattle.stale_model.specs.declared.Cluster.{Cluster}
use Rattle.lbt_epochs.specs.TwoLaws.{HasListing}

-- the clusters have no listing at d
abbrev pub HasNoListing : ℕ → List Cluster → Type 0
HasNoListing d clusters = HasListing d clusters → ⊥

-- the least d that is looked for lies above low, and is at most high
pub record AreBounds (clusters : List Cluster) (low high : ℕ) : Type 0 where
  pub rise : low < high
  pub below : HasNoListing low clusters
  pub above : HasListing high clusters

-- the clusters have a listing at delta, and none at any lesser d
pub record IsLeastListed (clusters : List Cluster) (delta : ℕ) : Type 0 where
  pub there : HasListing delta clusters
  pub least : (e : ℕ) → e < delta → HasNoListing e clusters
