-- What is said of a clear key, and of one with an early read, is true.
use Rattle.std.proofs.Common.{ℕ, List}
use Rattle.stale_model.specs.declared.KeyOps.{KeyOps}
use Rattle.stale_model.specs.declared.Cluster.{Cluster}
use Rattle.stale_model.specs.Operations.{operations}
use Rattle.stale_model.specs.Valid.{IsValidKey}
use Rattle.stale_model.specs.Faults.{IsEarlyKey, IsClearKey}
use Rattle.stale_model.specs.Clusters.{AreClusters}
use Rattle.stale_model.specs.Orders.{ListsEachOnce}
use Rattle.stale_model.specs.OperationOrders.{IsOperationOrder}
use Rattle.stale_model.specs.Truth.{IsNeverAtomic}
use Rattle.stale_model.proofs.ClustersOne.{cluster_writes_differ}
use Rattle.model_laws.proofs.Early.{early_reads_exclude_orders}
use Rattle.model_laws.proofs.Named.{matched_keys_name_their_writes}
use Rattle.delta_score.specs.WriteLists.{write_records}
use Rattle.delta_score.proofs.ListedWrites.{listing_lists_writes}
use Rattle.lbt_epochs.proofs.ListedEpochs.{listings_are_answered}
use Rattle.two_delta.specs.declared.least.LeastTwo.{LeastTwo}
use Rattle.two_delta.specs.LeastTwos.{IsPrintedLeast}
use Rattle.two_delta.proofs.PrintedShown.{printed_leasts_are_shown}
use Rattle.two_delta.proofs.ShownTwos.{shown_twos_are_least}
use Rattle.mode_texts.specs.TwoTexts.{IsLeastOf}

module _ (key : KeyOps) (clusters : List Cluster) (valid : IsValidKey key) (are : AreClusters (operations key) clusters) where
  -- the listing that is printed has each write once
  pub printed_listing_lists_writes : (least : LeastTwo) → IsPrintedLeast clusters least → ListsEachOnce (write_records (operations key)) least.listing
  printed_listing_lists_writes least printed =
      let ops = operations key in
      let listed = listings_are_answered least.delta clusters least.listing (cluster_writes_differ ops clusters are) printed.listing in
      rw listed.writes_are at (listing_lists_writes ops clusters listed.listing are listed.is.each_once)

  -- the least that is printed, with the order of its listing, is the least of the key
  pub least_holds : IsClearKey (operations key) → (least : LeastTwo) (order : List ℕ) → IsPrintedLeast clusters least
      → IsOperationOrder (operations key) least.delta 2 least.listing order
      → IsLeastOf (operations key) (record { delta = least.delta; order = order; refutation = least.refutation })
  least_holds clear least order printed in_order =
      let ops = operations key in
      let shown = printed_leasts_are_shown key clusters least order valid clear are printed in_order in
      record {
        clear = clear;
        delta = shown_twos_are_least ops least.delta order least.refutation (matched_keys_name_their_writes key valid clear.matched) shown;
        shown = shown;
        printed = record { clusters = clusters; are = are; listing = least.listing; found = printed; operation_order = in_order };
      }

-- no d has an order where a read is early
pub early_is_never_atomic : (key : KeyOps) (rec : ℕ) → IsValidKey key → IsEarlyKey (operations key) rec → IsNeverAtomic (operations key) rec
early_is_never_atomic key rec valid is =
    let (r, early, _) = is.early.at in
    record { early = is; no_delta = λ k. early_reads_exclude_orders (operations key) k r (matched_keys_name_their_writes key valid is.matched) early }
