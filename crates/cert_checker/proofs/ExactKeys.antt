-- A refutation with a fault doesn't hold, and a verdict with a fault isn't shown.
use Rattle.std.proofs.Common.{◌≡◌, ℕ, List, refl, inl, inr, subst, arith}
use Rattle.stale_model.specs.declared.Op.{Op}
use Rattle.stale_model.specs.declared.KeyOps.{KeyOps}
use Rattle.stale_model.specs.declared.Refutation.{Refutation}
use Rattle.stale_model.specs.declared.TwoPart.{TwoPart}
use Rattle.stale_model.specs.declared.TwoPart.TheVariants.{Yes, No}
use Rattle.stale_model.specs.declared.Verdict.{Verdict}
use Rattle.stale_model.specs.declared.Verdict.TheVariants.{Duplicate, Unmatched, Infinite, Judged}
use Rattle.stale_model.specs.Refutations.{RefutationHolds}
use Rattle.stale_model.specs.Truth.{EachKeyHas}
use Rattle.stale_model.specs.Shown.{ShowsTwo, IsShown}
use Rattle.stale_model.proofs.Places.{contains_at}
use Rattle.cert_checker.specs.declared.Found.{Found}
use Rattle.cert_checker.specs.declared.Found.TheVariants as found
use Rattle.cert_checker.specs.declared.Checked.{Checked}
use Rattle.cert_checker.specs.declared.Checked.TheVariants as checked
use Rattle.cert_checker.specs.declared.keys.TwoFault.{TwoFault}
use Rattle.cert_checker.specs.declared.keys.TwoFault.TheVariants as two
use Rattle.cert_checker.specs.declared.keys.KeyFault.{KeyFault}
use Rattle.cert_checker.specs.declared.keys.KeyFault.TheVariants as fault
use Rattle.cert_checker.specs.RefutationFaults.{IsStranger, IsRefutationFault, FindsRefutation}
use Rattle.cert_checker.specs.KeyFaults.{KindHolds, IsTwoFault, IsKeyFault, FindsKey, FindsAll}
use Rattle.cert_checker.specs.Laws.{RefutationsAreFoundGood, VerdictsAreFoundGood, CertificatesAreFoundGood}
use Rattle.cert_checker.proofs.Exact.{no_fault}

module _ (ops : List Op) (d : ℕ) (refutation : Refutation) (holds : RefutationHolds ops d refutation) where
  no_stranger : (place : ℕ) → IsStranger ops refutation.stuck place → ⊥
  no_stranger place s = elim s.why [
    | inl none ↦ let (w, is, write) = holds.writes s.rec (contains_at refutation.stuck place s.rec s.there) in none w is write
    | inr twice ↦
        let same : twice.earlier ≡ place = holds.once twice.earlier place s.rec twice.there s.there in
        let less = twice.before in
        omega arith
  ]

  pub no_refutation_fault : (rec : ℕ) → IsRefutationFault ops d refutation rec → ⊥
  no_refutation_fault rec (inl first) = no_stranger first.place first.wrong
  no_refutation_fault rec (inr (inl count)) = elim count.count [
    | inl none ↦ let some = holds.some in omega arith
    | inr other ↦ other holds.as_many
  ]
  no_refutation_fault rec (inr (inr attempt)) =
      let failed = attempt.failed.wrong in
      failed.fails (holds.each attempt.failed.place failed.member failed.attempt failed.member_is failed.attempt_is)

  refutation_good : (f : Found) → FindsRefutation ops d refutation f → f ≡ found.Good
  refutation_good found.Good finds = refl
  refutation_good (found.Bad rule rec) finds = absurd (no_refutation_fault rec finds.1)

pub refutations_are_found_good : RefutationsAreFoundGood
refutations_are_found_good ops d refutation f finds =
    (λ good. subst (FindsRefutation ops d refutation) good finds, λ holds. refutation_good ops d refutation holds f finds)

-- a verdict that is shown names the key's fault
kind_of_shown : (ops : List Op) (verdict : Verdict) → IsShown ops verdict → KindHolds ops verdict
kind_of_shown ops (Duplicate rec) shown = shown
kind_of_shown ops (Unmatched rec) shown = shown
kind_of_shown ops (Infinite rec) shown = shown
kind_of_shown ops (Judged judgement) shown = shown.clear

no_two_fault : (ops : List Op) (part : TwoPart) (two_fault : TwoFault) → ShowsTwo ops part → IsTwoFault ops part two_fault → ⊥
no_two_fault ops (Yes order) (two.Order order_fault) shown wrong = no_fault ops 0 2 order shown order_fault wrong
no_two_fault ops (Yes order) (two.Refutation rec) shown wrong = wrong
no_two_fault ops (No refutation) (two.Order order_fault) shown wrong = wrong
no_two_fault ops (No refutation) (two.Refutation rec) shown wrong = no_refutation_fault ops 0 refutation shown rec wrong

no_key_fault : (ops : List Op) (verdict : Verdict) (key_fault : KeyFault) → IsShown ops verdict → IsKeyFault ops verdict key_fault → ⊥
no_key_fault ops verdict (fault.Kind rec) shown wrong = wrong.wrong (kind_of_shown ops verdict shown)
no_key_fault ops (Judged j) (fault.First order_fault) shown wrong = no_fault ops j.delta 1 j.order shown.delta.atomic order_fault wrong.wrong
no_key_fault ops (Judged j) (fault.Four rec) shown wrong = wrong.wrong shown.delta.least
no_key_fault ops (Judged j) (fault.Two two_fault) shown wrong = no_two_fault ops j.two two_fault shown.two wrong.wrong
no_key_fault ops (Duplicate r) (fault.First order_fault) shown wrong = wrong
no_key_fault ops (Duplicate r) (fault.Four rec) shown wrong = wrong
no_key_fault ops (Duplicate r) (fault.Two two_fault) shown wrong = wrong
no_key_fault ops (Unmatched r) (fault.First order_fault) shown wrong = wrong
no_key_fault ops (Unmatched r) (fault.Four rec) shown wrong = wrong
no_key_fault ops (Unmatched r) (fault.Two two_fault) shown wrong = wrong
no_key_fault ops (Infinite r) (fault.First order_fault) shown wrong = wrong
no_key_fault ops (Infinite r) (fault.Four rec) shown wrong = wrong
no_key_fault ops (Infinite r) (fault.Two two_fault) shown wrong = wrong

verdict_good : (ops : List Op) (verdict : Verdict) → IsShown ops verdict → (f : Found) → FindsKey ops verdict f → f ≡ found.Good
verdict_good ops verdict shown found.Good finds = refl
verdict_good ops verdict shown (found.Bad rule rec) finds = let (key_fault, is, _, _) = finds in absurd (no_key_fault ops verdict key_fault shown is)

pub verdicts_are_found_good : VerdictsAreFoundGood
verdicts_are_found_good ops verdict f finds = (λ good. subst (FindsKey ops verdict) good finds, λ shown. verdict_good ops verdict shown f finds)

certificate_good : (keys : List KeyOps) (verdicts : List Verdict) → EachKeyHas IsShown keys verdicts → (f : Checked) → FindsAll keys verdicts f → f ≡ checked.Good
certificate_good keys verdicts shown checked.Good finds = refl
certificate_good keys verdicts shown (checked.Bad number rule rec) finds =
    let (key_fault, is, _, _) = finds.bad in
    let at = shown.each finds.place finds.key finds.verdict finds.key_is finds.verdict_is in
    absurd (no_key_fault _ finds.verdict key_fault at is)

pub certificates_are_found_good : CertificatesAreFoundGood
certificates_are_found_good keys verdicts f finds = (λ good. subst (FindsAll keys verdicts) good finds, λ shown. certificate_good keys verdicts shown f finds)
