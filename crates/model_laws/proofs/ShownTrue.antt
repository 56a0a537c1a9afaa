-- A verdict that is shown is true.
use Rattle.std.proofs.Common.{List, arith}
use Rattle.stale_model.specs.declared.Op.{Op}
use Rattle.stale_model.specs.declared.TwoPart.{TwoPart}
use Rattle.stale_model.specs.declared.TwoPart.TheVariants.{Yes, No}
use Rattle.stale_model.specs.declared.Verdict.{Verdict}
use Rattle.stale_model.specs.declared.Verdict.TheVariants.{Duplicate, Unmatched, Infinite, Judged}
use Rattle.stale_model.specs.Operations.{operations}
use Rattle.stale_model.specs.Faults.{IsMatchedKey}
use Rattle.stale_model.specs.NamedWrites.{NamesItsWrites}
use Rattle.stale_model.specs.Truth.{TwoHolds, IsTrueOf}
use Rattle.stale_model.specs.Shown.{ShowsTwo, IsShown}
use Rattle.model_laws.specs.Laws.{ShownVerdictsAreTrue}
use Rattle.model_laws.proofs.Conflicts.{shown_deltas_are_least}
use Rattle.model_laws.proofs.Early.{early_reads_exclude_orders}
use Rattle.model_laws.proofs.Named.{matched_keys_name_their_writes}
use Rattle.model_laws.proofs.Refuted.{refutations_exclude_orders}

-- what shows whether a key is 2-atomic makes it so
two_is_true : (ops : List Op) (two : TwoPart) → NamesItsWrites ops → ShowsTwo ops two → TwoHolds ops two
two_is_true ops (Yes order) names shown = shown
two_is_true ops (No refutation) names shown = refutations_exclude_orders ops 0 0 refutation names shown (omega arith)

-- for operations that name their writes where they are matched
pub shown_is_true : (ops : List Op) (verdict : Verdict) → (IsMatchedKey ops → NamesItsWrites ops) → IsShown ops verdict → IsTrueOf ops verdict
shown_is_true ops (Duplicate rec) named shown = shown
shown_is_true ops (Unmatched rec) named shown = shown
shown_is_true ops (Infinite rec) named shown =
    let (r, early, _) = shown.early.at in
    record { early = shown; no_delta = λ k. early_reads_exclude_orders ops k r (named shown.matched) early }
shown_is_true ops (Judged judgement) named shown =
    let names = named shown.clear.matched in
    record {
      matched = shown.clear.matched;
      least = shown_deltas_are_least ops judgement.delta judgement.order judgement.four names shown.delta;
      order = shown.delta.atomic;
      two = two_is_true ops judgement.two names shown.two;
    }

pub shown_verdicts_are_true : ShownVerdictsAreTrue
shown_verdicts_are_true key verdict valid shown = shown_is_true (operations key) verdict (matched_keys_name_their_writes key valid) shown
