-- The theorem on 2-atomicity, and that each valid key has a verdict.
use Rattle.std.proofs.Common.{◌≡◌, ℕ, zero, suc, ◌-◌, List, Option, Some, None, refl, inl, inr, arith}
use Rattle.stale_model.specs.declared.Op.{Op}
use Rattle.stale_model.specs.declared.KeyOps.{KeyOps}
use Rattle.stale_model.specs.declared.Cluster.{Cluster}
use Rattle.stale_model.specs.declared.Four.{Four}
use Rattle.stale_model.specs.declared.Judgement.{Judgement}
use Rattle.stale_model.specs.declared.Two
use Rattle.stale_model.specs.declared.Two.{Two}
use Rattle.stale_model.specs.declared.TwoPart.{TwoPart}
use Rattle.stale_model.specs.declared.TwoPart.TheVariants.{Yes, No}
use Rattle.stale_model.specs.declared.Verdict.{Verdict}
use Rattle.stale_model.specs.declared.Verdict.TheVariants.{Duplicate, Unmatched, Infinite, Judged}
use Rattle.stale_model.specs.Operations.{operations}
use Rattle.stale_model.specs.Valid.{IsValidKey}
use Rattle.stale_model.specs.Faults.{IsClearKey, IsMatchedKey}
use Rattle.stale_model.specs.LeastDelta.{HasOrder}
use Rattle.stale_model.specs.Clusters.{AreClusters, WriteRecordsDiffer, writes_of}
use Rattle.stale_model.specs.Zones.{four_of}
use Rattle.stale_model.specs.Chains.{IsAnswer}
use Rattle.stale_model.specs.PrintedVerdicts.{IsPrintedFour, IsPrintedTwo, IsPrintedJudgement, IsPrintedVerdict}
use Rattle.stale_model.proofs.ClustersOne.{cluster_writes_differ}
use Rattle.model_laws.proofs.Named.{matched_keys_name_their_writes}
use Rattle.model_laws.proofs.Early.{early_reads_exclude_orders}
use Rattle.model_laws.proofs.Refuted.{refutations_exclude_orders}
use Rattle.clusters.specs.declared.Sorted
use Rattle.clusters.specs.declared.Sorted.{Sorted}
use Rattle.clusters.specs.Sorting.{IsSorting}
use Rattle.clusters.proofs.Existence.{sortings_exist}
use Rattle.zones.proofs.Existence.{zone_orders_exist, pairs_exist}
use Rattle.delta_score.specs.Scores.{IsLeastWithoutConflict}
use Rattle.delta_score.proofs.Existence.{operation_orders_exist, least_deltas_exist}
use Rattle.delta_score.proofs.ListingOrders.{listings_are_orders}
use Rattle.lbt_epochs.specs.TwoLaws.{HasListing, IsYes}
use Rattle.lbt_epochs.proofs.AnswersThere.{answers_exist}
use Rattle.lbt_epochs.proofs.ListedEpochs.{listings_are_answered}
use Rattle.lbt_epochs.proofs.RefutedAnswers.{refutations_are_answered}
use Rattle.audit_workers.specs.Laws.{TwoTheorem, YesIsExact, VerdictExists}
use Rattle.delta_score.proofs.Starts.{starts_by_finish}

module _ (key : KeyOps) (d : ℕ) (clusters : List Cluster) (valid : IsValidKey key) (matched : IsMatchedKey (operations key)) (are : AreClusters (operations key) clusters) where
  -- an answer is that of a listing where there is an order with k = 2
  yes_of_order : HasOrder (operations key) d 2 → (two : Two) → IsAnswer d clusters two → IsYes two
  yes_of_order (order, is) (Two.TheVariants.Yes writes) answer = tt
  yes_of_order (order, is) (Two.TheVariants.No refutation) answer =
      let names = matched_keys_name_their_writes key valid matched in
      absurd (refutations_exclude_orders (operations key) d d refutation names (refutations_are_answered (operations key) d clusters refutation names are answer) (omega arith) order is)

  listing_of_yes : (two : Two) → IsAnswer d clusters two → IsYes two → HasListing d clusters
  listing_of_yes (Two.TheVariants.Yes writes) answer is_yes =
      let listed = listings_are_answered d clusters writes (cluster_writes_differ (operations key) clusters are) answer in
      record { listing = listed.listing; is = listed.is }
  listing_of_yes (Two.TheVariants.No refutation) answer is_yes = absurd is_yes

  order_of_listing : IsClearKey (operations key) → HasListing d clusters → HasOrder (operations key) d 2
  order_of_listing clear has =
      let (order, is) = operation_orders_exist (operations key) d 2 (writes_of has.listing) in
      (order, listings_are_orders key d clusters has.listing order valid clear are has.is is)

pub two_theorem : TwoTheorem
two_theorem key d clusters valid matched are = (
  λ has.
      let (two, answer) = answers_exist d clusters in
      let (order, is) = has in (
        λ r early. early_reads_exclude_orders (operations key) 2 r (matched_keys_name_their_writes key valid matched) early d order is,
        listing_of_yes key d clusters valid matched are two answer (yes_of_order key d clusters valid matched are has two answer),
      ),
  λ (no_early, has). order_of_listing key d clusters valid matched are (record { matched = matched; no_early = no_early }) has,
)

pub yes_is_exact : YesIsExact
yes_is_exact key d clusters two valid clear are answer = (
  λ yes. order_of_listing key d clusters valid clear.matched are clear (listing_of_yes key d clusters valid clear.matched are two answer yes),
  λ has. yes_of_order key d clusters valid clear.matched are has two answer,
)

-- the four records that are printed for the least delta
four_exists : (clusters : List Cluster) (delta : ℕ) → WriteRecordsDiffer clusters → IsLeastWithoutConflict clusters delta → (four : Option Four) × IsPrintedFour clusters delta four
four_exists clusters zero differ least = (None, refl)
four_exists clusters (suc d) differ least = elim (pairs_exist d clusters differ) [
  | inl apart ↦ absurd (let (i, j, c) = least.least d (omega arith) in apart i j c.i_there c.j_there c.apart c.conflict)
  | inr (i, j, pair) ↦
      let below : suc d - 1 ≡ d = omega arith in
      (Some (four_of (suc d - 1) i j), (omega arith, record { i = i; j = j; pair = rw below pair; four_is = refl }))
]

two_exists : (ops : List Op) (clusters : List Cluster) → (two : TwoPart) × IsPrintedTwo ops clusters two
two_exists ops clusters = part_of (answers_exist 0 clusters)
  where
    part_of : (two : Two) × IsAnswer 0 clusters two → (part : TwoPart) × IsPrintedTwo ops clusters part
    part_of (Two.TheVariants.Yes writes, answer) = let (order, is) = operation_orders_exist ops 0 2 writes in (Yes order, record { writes = writes; answer = answer; operation_order = is })
    part_of (Two.TheVariants.No refutation, answer) = (No refutation, answer)

judgement_exists : (key : KeyOps) (clusters : List Cluster) → IsValidKey key → IsClearKey (operations key) → AreClusters (operations key) clusters → (judgement : Judgement) × IsPrintedJudgement (operations key) judgement
judgement_exists key clusters valid clear are =
    let ops = operations key in
    let differ = cluster_writes_differ ops clusters are in
    let (delta, least) = least_deltas_exist clusters differ (starts_by_finish key clusters valid clear are) in
    let (zones, zone_order) = zone_orders_exist delta clusters in
    let (order, in_order) = operation_orders_exist ops delta 1 (writes_of zones) in
    let (four, is_four) = four_exists clusters delta differ least in
    let (two, is_two) = two_exists ops clusters in (
      record { delta = delta; order = order; four = four; two = two },
      record { clear = clear; clusters = clusters; are = are; no_conflict = least.apart; order = record { zones = zones; zone_order = zone_order; operation_order = in_order }; four = is_four; two = is_two },
    )

verdict_of_sorting : (key : KeyOps) → IsValidKey key → (sorted : Sorted) → IsSorting (operations key) sorted → (verdict : Verdict) × IsPrintedVerdict (operations key) verdict
verdict_of_sorting key valid (Sorted.TheVariants.Duplicate rec) is = (Duplicate rec, is)
verdict_of_sorting key valid (Sorted.TheVariants.Unmatched rec) is = (Unmatched rec, is)
verdict_of_sorting key valid (Sorted.TheVariants.Early rec clusters) is = (Infinite rec, is.0)
verdict_of_sorting key valid (Sorted.TheVariants.Clear clusters) is = let (judgement, printed) = judgement_exists key clusters valid is.0 is.1 in (Judged judgement, printed)

pub verdict_exists : VerdictExists
verdict_exists key valid = let (sorted, is) = sortings_exist key valid in verdict_of_sorting key valid sorted is
