-- What holds of the clusters of a clear key, and where they have a listing.
use Rattle.std.proofs.Common.{◌≡◌, ℕ, ◌+◌, ◌^◌, ◌<◌, ◌≤◌, Bool, true, false, List, length, inl, inr, arith}
use Rattle.std.specs.Prelude.{◌↔◌, All, IsTrue}
use Rattle.std.proofs.lemmas.Bool.{cases_lt}
use Rattle.stale_model.specs.declared.Cluster.{Cluster}
use Rattle.stale_model.specs.declared.Two.{Two}
use Rattle.stale_model.specs.declared.Two.TheVariants.{Yes, No}
use Rattle.stale_model.specs.Operations.{operations}
use Rattle.stale_model.specs.Clusters.{WriteRecordsDiffer}
use Rattle.stale_model.specs.Orders.{IsOrder}
use Rattle.stale_model.specs.Zones.{HasNoConflict}
use Rattle.stale_model.specs.Chains.{IsAnswer}
use Rattle.stale_model.proofs.ClustersOne.{cluster_writes_differ}
use Rattle.model_laws.proofs.Named.{matched_keys_name_their_writes}
use Rattle.model_laws.proofs.Monotone.{orders_stay_at_more_writes, listings_stay_at_greater_delta}
use Rattle.model_laws.proofs.Refuted.{refutations_exclude_orders}
use Rattle.clusters.proofs.Existence as sorting
use Rattle.delta_score.specs.ZoneLaws.{IsConflictFree}
use Rattle.delta_score.proofs.Starts as starts
use Rattle.delta_score.proofs.Theorem.{zone_theorem}
use Rattle.lbt_epochs.specs.TwoLaws.{HasListing}
use Rattle.lbt_epochs.proofs.AnswersThere.{answers_exist}
use Rattle.lbt_epochs.proofs.RefutedListings.{answers_tell_whether_listed}
use Rattle.lbt_epochs.proofs.RefutedAnswers.{refutations_are_answered}
use Rattle.two_delta.specs.LeastTwos.{AreOfClearKey}
use Rattle.two_delta.specs.Halving.{HasNoListing, AreBounds, IsLeastListed}

module _ (clusters : List Cluster) (of : AreOfClearKey clusters) where
  -- no write record stands twice
  pub clusters_differ : WriteRecordsDiffer clusters
  clusters_differ = cluster_writes_differ (operations of.key) clusters of.are

  -- their places fit 32 bits
  pub clusters_are_few : length clusters < 2 ^ 32
  clusters_are_few = sorting.clusters_are_few of.key clusters of.valid of.are

  -- each write starts no later than the first operation of its cluster finishes
  pub starts_by_finish : All (λ c. c.w ≤ c.f) clusters
  starts_by_finish = starts.starts_by_finish of.key clusters of.valid of.clear of.are

  -- where there is an order with k = 2, the answer is no refutation
  listed_by_answer : (d : ℕ) (order : List ℕ) → IsOrder (operations of.key) d 2 order → (two : Two) → IsAnswer d clusters two → HasListing d clusters
  listed_by_answer d order is (Yes writes) answer = (answers_tell_whether_listed d clusters (Yes writes) clusters_differ answer).0 tt
  listed_by_answer d order is (No refutation) answer =
      let ops = operations of.key in
      let names = matched_keys_name_their_writes of.key of.valid of.clear.matched in
      let holds = refutations_are_answered ops d clusters refutation names of.are answer in
      absurd (refutations_exclude_orders ops d d refutation names holds (omega arith) order is)

  -- where no two are in conflict, they have a listing
  pub listed_where_apart : (d : ℕ) → HasNoConflict d clusters → HasListing d clusters
  listed_where_apart d apart =
      let ops = operations of.key in
      let free : IsConflictFree ops d clusters = record { no_early = of.clear.no_early; no_conflict = apart } in
      let (order, is) = (zone_theorem of.key d clusters of.valid of.clear.matched of.are).1 free in
      let (two, answer) = answers_exist d clusters in
      listed_by_answer d order (orders_stay_at_more_writes ops d 1 2 order (omega arith) is) two answer

-- a listing at d is one at each greater d
listed_from : (d e : ℕ) (clusters : List Cluster) → d ≤ e → HasListing d clusters → HasListing e clusters
listed_from d e clusters l has = record { listing = has.listing; is = listings_stay_at_greater_delta d e clusters has.listing l has.is }

-- where 0 has no listing, the least d with one lies above it, and is at most a d without conflict
pub bounds_where_apart : (clusters : List Cluster) → AreOfClearKey clusters → (d : ℕ) (told : Bool) → IsTrue told ↔ HasListing 0 clusters → told ≡ false
    → HasNoConflict d clusters → AreBounds clusters 0 d
bounds_where_apart clusters of d told tells none apart =
    let above = listed_where_apart clusters of d apart in
    let below : HasNoListing 0 clusters = λ has. let yes : told ≡ true = tells.1 has in cc in
    record {
      rise = elim (cases_lt 0 d) [
        | inl less ↦ less
        | inr more ↦ absurd (below (listed_from d 0 clusters more above))
      ];
      below = below;
      above = above;
    }

-- bounds that are next to each other leave only the higher one
pub least_is_high : (clusters : List Cluster) (low high : ℕ) → AreBounds clusters low high → high ≤ low + 1 → IsLeastListed clusters high
least_is_high clusters low high bounds l = record {
  there = bounds.above;
  least = λ e less has. bounds.below (listed_from e low clusters (omega arith) has);
}
