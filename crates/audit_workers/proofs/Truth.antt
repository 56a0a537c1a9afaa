-- The verdict that is printed is shown, and so it is true.
use Rattle.std.proofs.Common.{ℕ, ◌-◌, List, Option, Some, None, refl, sym, subst}
use Rattle.std.specs.Prelude.{All}
use Rattle.std.proofs.lemmas.Option.{slice_get_within, get_or_from_slice_get}
use Rattle.stale_model.specs.declared.Op.{Op}
use Rattle.stale_model.specs.declared.KeyOps.{KeyOps}
use Rattle.stale_model.specs.declared.Cluster.{Cluster}
use Rattle.stale_model.specs.declared.Four.{Four}
use Rattle.stale_model.specs.declared.Judgement.{Judgement}
use Rattle.stale_model.specs.declared.TwoPart.{TwoPart}
use Rattle.stale_model.specs.declared.TwoPart.TheVariants.{Yes, No}
use Rattle.stale_model.specs.declared.Verdict.{Verdict}
use Rattle.stale_model.specs.declared.Verdict.TheVariants.{Duplicate, Unmatched, Infinite, Judged}
use Rattle.stale_model.specs.Operations.{operations}
use Rattle.stale_model.specs.Valid.{IsValidKey}
use Rattle.stale_model.specs.Faults.{IsDuplicate, IsUnmatched, IsClearKey}
use Rattle.stale_model.specs.Clusters.{AreClusters}
use Rattle.stale_model.specs.NamedWrites.{NamesItsWrites}
use Rattle.stale_model.specs.Zones.{IsFourOfPair}
use Rattle.stale_model.specs.Shown.{FourHold, FourShow, ShowsDelta, ShowsTwo, ShowsJudgement}
use Rattle.stale_model.specs.PrintedVerdicts.{IsPrintedTwo, IsPrintedJudgement, IsPrintedFour, IsPrintedVerdict, ArePrintedVerdicts}
use Rattle.stale_model.specs.Truth.{EachKeyHas}
use Rattle.stale_model.proofs.ClustersOne.{cluster_writes_differ}
use Rattle.model_laws.proofs.Named.{matched_keys_name_their_writes}
use Rattle.model_laws.proofs.ShownTrue.{shown_verdicts_are_true}
use Rattle.delta_score.proofs.Ordered.{zone_orders_are_orders}
use Rattle.zones.proofs.Crossings.{no_crossing-from_no_conflict}
use Rattle.delta_score.proofs.Pairs.{pairs_show_four}
use Rattle.delta_score.proofs.ListingOrders.{listings_are_orders}
use Rattle.lbt_epochs.proofs.ListedEpochs.{listings_are_answered}
use Rattle.lbt_epochs.proofs.RefutedAnswers.{refutations_are_answered}
use Rattle.stale_model.proofs.LeastRecords.{not_none}
use Rattle.audit_workers.specs.Laws.{VerdictsAreShown, VerdictsAreTrue, InfiniteIsExact}

module _ (key : KeyOps) (valid : IsValidKey key) where
  -- the records of a pair show that there is no order at d
  four_holds : (clusters : List Cluster) (d : ℕ) (four : Four) → NamesItsWrites (operations key) → AreClusters (operations key) clusters → IsFourOfPair clusters d four → FourHold (operations key) d four
  four_holds clusters d four names are is =
      subst (FourHold (operations key) d) (sym is.four_is) (pairs_show_four (operations key) d clusters is.i is.j names are is.pair)

  four_shows : (clusters : List Cluster) (delta : ℕ) (four : Option Four) → NamesItsWrites (operations key) → AreClusters (operations key) clusters → IsPrintedFour clusters delta four → FourShow (operations key) delta four
  four_shows clusters delta None names are none = none
  four_shows clusters delta (Some four) names are (above, printed) = (above, four_holds clusters (delta - 1) four names are printed)

  delta_shown : (judgement : Judgement) → IsPrintedJudgement (operations key) judgement → ShowsDelta (operations key) judgement.delta judgement.order judgement.four
  delta_shown judgement h =
      let names = matched_keys_name_their_writes key valid h.clear.matched in
      let no_crossing = no_crossing-from_no_conflict judgement.delta h.clusters h.order.zones (cluster_writes_differ (operations key) h.clusters h.are) h.order.zone_order h.no_conflict in
      record {
        atomic = zone_orders_are_orders key judgement.delta h.clusters h.order.zones judgement.order valid h.clear h.are h.order.zone_order.each_once no_crossing h.order.operation_order;
        least = four_shows h.clusters judgement.delta judgement.four names h.are h.four;
      }

  two_shown : (clusters : List Cluster) (two : TwoPart) → IsClearKey (operations key) → AreClusters (operations key) clusters → IsPrintedTwo (operations key) clusters two → ShowsTwo (operations key) two
  two_shown clusters (Yes order) clear are printed =
      let listed = listings_are_answered 0 clusters printed.writes (cluster_writes_differ (operations key) clusters are) printed.answer in
      listings_are_orders key 0 clusters listed.listing order valid clear are listed.is (rw listed.writes_are printed.operation_order)
  two_shown clusters (No refutation) clear are printed =
      refutations_are_answered (operations key) 0 clusters refutation (matched_keys_name_their_writes key valid clear.matched) are printed

  judgement_shown : (judgement : Judgement) → IsPrintedJudgement (operations key) judgement → ShowsJudgement (operations key) judgement
  judgement_shown judgement h = record { clear = h.clear; delta = delta_shown judgement h; two = two_shown h.clusters judgement.two h.clear h.are h.two }

pub verdicts_are_shown : VerdictsAreShown
verdicts_are_shown key (Duplicate rec) valid h = h
verdicts_are_shown key (Unmatched rec) valid h = h
verdicts_are_shown key (Infinite rec) valid h = h
verdicts_are_shown key (Judged judgement) valid h = judgement_shown key valid judgement h

pub verdicts_are_true : VerdictsAreTrue
verdicts_are_true key verdict valid h = shown_verdicts_are_true key verdict valid (verdicts_are_shown key verdict valid h)

pub infinite_is_exact : InfiniteIsExact
infinite_is_exact ops (Duplicate rec) matched true_of = (λ is. cc, λ none. absurd (not_none (IsDuplicate ops) rec true_of matched.no_duplicate))
infinite_is_exact ops (Unmatched rec) matched true_of = (λ is. cc, λ none. absurd (not_none (IsUnmatched ops) rec true_of.unmatched matched.no_unmatched))
infinite_is_exact ops (Infinite rec) matched true_of = (λ is. true_of.no_delta 1, λ none. (rec, refl))
infinite_is_exact ops (Judged judgement) matched true_of = (λ is. cc, λ none. absurd (none judgement.delta judgement.order true_of.order))

-- what a verdict that is printed has, each of the verdicts of valid keys has
pub each_has : (Says : List Op → Verdict → Type 0)
    → ((key : KeyOps) (verdict : Verdict) → IsValidKey key → IsPrintedVerdict (operations key) verdict → Says (operations key) verdict)
    → (keys : List KeyOps) (verdicts : List Verdict) → All IsValidKey keys → ArePrintedVerdicts keys verdicts → EachKeyHas Says keys verdicts
each_has Says says keys verdicts valid h = record {
  as_many = h.as_many;
  each = λ i key verdict at there.
      let is_valid = subst IsValidKey (get_or_from_slice_get keys i key key at) (valid i key (slice_get_within keys i key at)) in
      says key verdict is_valid (h.each i key verdict at there);
}
