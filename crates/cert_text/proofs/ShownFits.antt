-- The numbers of a verdict that is shown fit their types.
use Rattle.std.proofs.Common.{◌≡◌, ◌<◌, ◌^◌, ◌-◌, ℕ, Bool, true, false, List, length, Option, Some, None, max, inl, inr, subst, arith}
use Rattle.std.specs.Prelude.{All, Contains, nat_le, ◌==◌, if◌then◌else◌}
use Rattle.std.proofs.lemmas.Bool.{le-leb, and_from}
use Rattle.std.proofs.lemmas.List.Elements.{All-contains}
use Rattle.stale_model.specs.declared.Op.{Op}
use Rattle.stale_model.specs.declared.Four.{Four}
use Rattle.stale_model.specs.declared.KeyOps.{KeyOps}
use Rattle.stale_model.specs.declared.Judgement.{Judgement}
use Rattle.stale_model.specs.declared.Verdict.TheVariants.{Duplicate, Unmatched, Infinite, Judged}
use Rattle.stale_model.specs.Operations.{initial_write, operations, earliest_start}
use Rattle.stale_model.specs.Valid.{IsValidOp, IsValidKey}
use Rattle.stale_model.specs.Faults.{IsDuplicate, HasNone}
use Rattle.stale_model.specs.Orders.{IsOrder}
use Rattle.stale_model.specs.Shown.{FourShow, ShowsJudgement}
use Rattle.stale_model.proofs.Sorted.{first_or_later}
use Rattle.cert_text.specs.Numbers.{most_delta}
use Rattle.cert_text.specs.Laws.{fits, ShownFit}
use Rattle.cert_text.proofs.ShownRecords.{record_fits, order_fits, four_records_fit, two_records_fit}
use Rattle.cert_text.proofs.ShownDeltas.{four_below}

module _ (ops : List Op) (low : (a : Op) → Contains ops a → a.rec < 2 ^ 32) (starts : (a : Op) → Contains ops a → earliest_start a < 2 ^ 63) where
  delta_fits : (delta : ℕ) (order : List ℕ) (four : Option Four) → HasNone (IsDuplicate ops) → IsOrder ops delta 1 order → FourShow ops delta four → nat_le delta most_delta ≡ true
  delta_fits delta order None none o shown = le-leb delta most_delta (omega arith)
  delta_fits delta order (Some four) none o shown =
      let (a, there, below) = four_below ops none delta 1 order o (delta - 1) four shown.1 in
      let bound = starts a there in
      le-leb delta most_delta (omega arith)

  judgement_fits : (judgement : Judgement) → ShowsJudgement ops judgement → fits (Judged judgement) ≡ true
  judgement_fits j shown =
      and_from _ _ (delta_fits j.delta j.order j.four shown.clear.matched.no_duplicate shown.delta.atomic shown.delta.least)
      (and_from _ _ (order_fits ops low j.delta 1 j.order shown.delta.atomic)
      (and_from _ _ (four_records_fit ops low j.delta j.four shown.delta.least) (two_records_fit ops low j.two shown.two)))

module _ (key : KeyOps) (valid : IsValidKey key) (low : All (λ a. a.rec < 2 ^ 32) key.ops) where
  low_records : (a : Op) → Contains (operations key) a → a.rec < 2 ^ 32
  low_records a c = elim (first_or_later initial_write a key.ops c) [
    | inl same ↦ subst (λ (x : Op). x.rec < 2 ^ 32) same (omega arith)
    | inr there ↦ All-contains (λ (x : Op). x.rec < 2 ^ 32) key.ops a low there
  ]

  low_starts : (a : Op) → Contains (operations key) a → earliest_start a < 2 ^ 63
  low_starts a c = elim (first_or_later initial_write a key.ops c) [
    | inl same ↦ subst (λ (x : Op). earliest_start x < 2 ^ 63) same (omega arith)
    | inr there ↦ let v = All-contains (IsValidOp (length key.values)) key.ops a valid.ops there in bounded (a.rec == 0) a.start a.slack v.tick
  ] where
    bounded : (initial : Bool) (start slack : ℕ) → start < 2 ^ 62 → (if initial then 0 else max 1 (start - slack)) < 2 ^ 63
    bounded true start slack tick = omega arith
    bounded false start slack tick = omega arith

pub shown_fit : ShownFit
shown_fit key (Duplicate rec) valid low shown =
    let (a, is, same) = shown.at in record_fits (operations key) (low_records key valid low) rec a (record { there = is.there; record_is = same })
shown_fit key (Unmatched rec) valid low shown =
    let (a, is, same) = shown.unmatched.at in record_fits (operations key) (low_records key valid low) rec a (record { there = is.read.there; record_is = same })
shown_fit key (Infinite rec) valid low shown =
    let (a, is, same) = shown.early.at in record_fits (operations key) (low_records key valid low) rec a (record { there = is.read.there; record_is = same })
shown_fit key (Judged judgement) valid low shown = judgement_fits (operations key) (low_records key valid low) (low_starts key valid low) judgement shown
