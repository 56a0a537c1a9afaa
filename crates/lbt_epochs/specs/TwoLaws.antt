-- What the answer of chains, rounds and epochs means.
use Rattle.std.specs.Prelude.{◌≡◌, ◌↔◌, ℕ, List}
use Rattle.stale_model.specs.declared.Op.{Op}
use Rattle.stale_model.specs.declared.Cluster.{Cluster}
use Rattle.stale_model.specs.declared.Refutation.{Refutation}
use Rattle.stale_model.specs.declared.Two.{Two}
use Rattle.stale_model.specs.declared.Two.TheVariants.{Yes, No}
use Rattle.stale_model.specs.NamedWrites.{NamesItsWrites}
use Rattle.stale_model.specs.Clusters.{AreClusters, writes_of, WriteRecordsDiffer}
use Rattle.stale_model.specs.Listings.{IsListing}
use Rattle.stale_model.specs.Chains.{IsAnswer}
use Rattle.stale_model.specs.Refutations.{RefutationHolds}

-- the writes of a listing of these clusters at d
pub record AreListed (d : ℕ) (clusters : List Cluster) (writes : List ℕ) : Type 0 where
  pub listing : List Cluster
  pub is : IsListing d clusters listing
  pub writes_are : writes_of listing ≡ writes

-- some listing of these clusters at d
pub record HasListing (d : ℕ) (clusters : List Cluster) : Type 0 where
  pub listing : List Cluster
  pub is : IsListing d clusters listing

-- the answer is a list of writes, and no refutation
abbrev pub IsYes : Two → Type 0
IsYes (Yes writes) = Unit {0}
IsYes (No refutation) = ⊥

-- there is an answer
abbrev pub AnswersExist : Type 0
AnswersExist = (d : ℕ) (clusters : List Cluster) → (two : Two) × IsAnswer d clusters two

-- a list of writes that is answered is that of a listing
abbrev pub ListingsAreAnswered : Type 0
ListingsAreAnswered = (d : ℕ) (clusters : List Cluster) (writes : List ℕ) → WriteRecordsDiffer clusters
    → IsAnswer d clusters (Yes writes) → AreListed d clusters writes

-- the answer is a list of writes exactly where there is a listing
abbrev pub AnswersTellWhetherListed : Type 0
AnswersTellWhetherListed = (d : ℕ) (clusters : List Cluster) (two : Two) → WriteRecordsDiffer clusters → IsAnswer d clusters two
    → IsYes two ↔ HasListing d clusters

-- a refutation that is answered for the clusters of a key holds
abbrev pub RefutationsAreAnswered : Type 0
RefutationsAreAnswered = (ops : List Op) (d : ℕ) (clusters : List Cluster) (refutation : Refutation) → NamesItsWrites ops → AreClusters ops clusters
    → IsAnswer d clusters (No refutation) → RefutationHolds ops d refutation
