-- What is printed for a clear key shows that delta is the least.
use Rattle.std.proofs.Common.{ℕ, List}
use Rattle.std.specs.Prelude.{◌-◌, Option, Some, None}
use Rattle.stale_model.specs.declared.KeyOps.{KeyOps}
use Rattle.stale_model.specs.declared.Cluster.{Cluster}
use Rattle.stale_model.specs.declared.Refutation.{Refutation}
use Rattle.stale_model.specs.Operations.{operations}
use Rattle.stale_model.specs.Valid.{IsValidKey}
use Rattle.stale_model.specs.Faults.{IsClearKey}
use Rattle.stale_model.specs.Clusters.{AreClusters}
use Rattle.stale_model.proofs.ClustersOne.{cluster_writes_differ}
use Rattle.model_laws.proofs.Named.{matched_keys_name_their_writes}
use Rattle.delta_score.proofs.ListingOrders.{listings_are_orders}
use Rattle.lbt_epochs.proofs.ListedEpochs.{listings_are_answered}
use Rattle.lbt_epochs.proofs.RefutedAnswers.{refutations_are_answered}
use Rattle.two_delta.specs.LeastTwos.{IsPrintedBelow, RefutationShows, PrintedLeastsAreShown}

-- the refutation that is answered just below holds there
below_is_shown : (key : KeyOps) (clusters : List Cluster) (delta : ℕ) (refutation : Option Refutation) → IsValidKey key → IsClearKey (operations key)
    → AreClusters (operations key) clusters → IsPrintedBelow clusters delta refutation → RefutationShows (operations key) delta refutation
below_is_shown key clusters delta None valid clear are below = below
below_is_shown key clusters delta (Some refutation) valid clear are (some, answer) =
    let names = matched_keys_name_their_writes key valid clear.matched in
    (some, refutations_are_answered (operations key) (delta - 1) clusters refutation names are answer)

pub printed_leasts_are_shown : PrintedLeastsAreShown
printed_leasts_are_shown key clusters least order valid clear are printed in_order =
    let ops = operations key in
    let listed = listings_are_answered least.delta clusters least.listing (cluster_writes_differ ops clusters are) printed.listing in
    let by_listing = rw (← listed.writes_are) at in_order in
    record {
      is_order = listings_are_orders key least.delta clusters listed.listing order valid clear are listed.is by_listing;
      below = below_is_shown key clusters least.delta least.refutation valid clear are printed.below;
    }
