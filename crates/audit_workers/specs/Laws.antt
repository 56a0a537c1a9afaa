-- What holds of all verdicts.
use Rattle.std.specs.Prelude.{◌≡◌, ◌↔◌, ℕ, All, List}
use Rattle.stale_model.specs.declared.Op.{Op}
use Rattle.stale_model.specs.declared.KeyOps.{KeyOps}
use Rattle.stale_model.specs.declared.Cluster.{Cluster}
use Rattle.stale_model.specs.declared.Two.{Two}
use Rattle.stale_model.specs.declared.Verdict.{Verdict}
use Rattle.stale_model.specs.declared.Verdict.TheVariants.{Infinite}
use Rattle.stale_model.specs.Operations.{operations}
use Rattle.stale_model.specs.Valid.{IsValidKey}
use Rattle.stale_model.specs.Faults.{IsEarly, HasNone, IsMatchedKey, IsClearKey}
use Rattle.stale_model.specs.LeastDelta.{HasOrder, HasNoDelta}
use Rattle.stale_model.specs.Clusters.{AreClusters}
use Rattle.stale_model.specs.Chains.{IsAnswer}
use Rattle.stale_model.specs.Truth.{IsTrueOf}
use Rattle.stale_model.specs.Shown.{IsShown}
use Rattle.stale_model.specs.PrintedVerdicts.{IsPrintedVerdict, ArePrintedVerdicts}
use Rattle.lbt_epochs.specs.TwoLaws.{HasListing, IsYes}

-- each valid key has a verdict that is printed
abbrev pub VerdictExists : Type 0
VerdictExists = (key : KeyOps) → IsValidKey key → (verdict : Verdict) × IsPrintedVerdict (operations key) verdict

-- the verdict that is printed of a valid key is one
abbrev pub VerdictIsOne : Type 0
VerdictIsOne = (key : KeyOps) (x y : Verdict) → IsValidKey key → IsPrintedVerdict (operations key) x → IsPrintedVerdict (operations key) y → x ≡ y

-- the verdicts that are printed of valid keys are one list
abbrev pub VerdictsAreOne : Type 0
VerdictsAreOne = (keys : List KeyOps) (xs ys : List Verdict) → All IsValidKey keys → ArePrintedVerdicts keys xs → ArePrintedVerdicts keys ys → xs ≡ ys

-- the verdict that is printed of a valid key is shown
abbrev pub VerdictsAreShown : Type 0
VerdictsAreShown = (key : KeyOps) (verdict : Verdict) → IsValidKey key → IsPrintedVerdict (operations key) verdict → IsShown (operations key) verdict

-- and it is true
abbrev pub VerdictsAreTrue : Type 0
VerdictsAreTrue = (key : KeyOps) (verdict : Verdict) → IsValidKey key → IsPrintedVerdict (operations key) verdict → IsTrueOf (operations key) verdict

-- infinite is the true verdict of a key that is neither duplicate nor unmatched exactly where no d has an order
abbrev pub InfiniteIsExact : Type 0
InfiniteIsExact = (ops : List Op) (verdict : Verdict) → IsMatchedKey ops → IsTrueOf ops verdict → ((rec : ℕ) × (verdict ≡ Infinite rec)) ↔ HasNoDelta ops 1

-- no read is early, and some listing of the clusters at d is there
abbrev pub CanBeListed : List Op → ℕ → List Cluster → Type 0
CanBeListed ops d clusters = HasNone (IsEarly ops) × HasListing d clusters

-- there is an order with k = 2 at d exactly where no read is early and some listing at d is there
abbrev pub TwoTheorem : Type 0
TwoTheorem = (key : KeyOps) (d : ℕ) (clusters : List Cluster) → IsValidKey key → IsMatchedKey (operations key) → AreClusters (operations key) clusters
    → HasOrder (operations key) d 2 ↔ CanBeListed (operations key) d clusters

-- yes is answered for the clusters of a key without early reads exactly where there is an order with k = 2 at d
abbrev pub YesIsExact : Type 0
YesIsExact = (key : KeyOps) (d : ℕ) (clusters : List Cluster) (two : Two) → IsValidKey key → IsClearKey (operations key)
    → AreClusters (operations key) clusters → IsAnswer d clusters two → IsYes two ↔ HasOrder (operations key) d 2
