-- What is found says exactly whether an order, a refutation, a verdict or a whole certificate is good.
use Rattle.std.specs.Prelude.{◌≡◌, ◌↔◌, ℕ, List}
use Rattle.stale_model.specs.declared.Op.{Op}
use Rattle.stale_model.specs.declared.KeyOps.{KeyOps}
use Rattle.stale_model.specs.declared.Refutation.{Refutation}
use Rattle.stale_model.specs.declared.Verdict.{Verdict}
use Rattle.stale_model.specs.Orders.{IsOrder}
use Rattle.stale_model.specs.Refutations.{RefutationHolds}
use Rattle.stale_model.specs.Truth.{EachKeyHas}
use Rattle.stale_model.specs.Shown.{IsShown}
use Rattle.cert_checker.specs.declared.Found.{Found}
use Rattle.cert_checker.specs.declared.Found.TheVariants.{Good}
use Rattle.cert_checker.specs.declared.Checked.{Checked}
use Rattle.cert_checker.specs.declared.Checked.TheVariants as checked
use Rattle.cert_checker.specs.OrderFaults.{FindsOrder}
use Rattle.cert_checker.specs.RefutationFaults.{FindsRefutation}
use Rattle.cert_checker.specs.KeyFaults.{FindsKey, FindsAll}

-- what is found of a list is good exactly where it is an order
abbrev pub OrdersAreFoundGood : Type 0
OrdersAreFoundGood = (ops : List Op) (d k : ℕ) (order : List ℕ) (found : Found) → FindsOrder ops d k order found → (found ≡ Good) ↔ IsOrder ops d k order

-- what is found of a refutation is good exactly where it holds
abbrev pub RefutationsAreFoundGood : Type 0
RefutationsAreFoundGood = (ops : List Op) (d : ℕ) (refutation : Refutation) (found : Found) → FindsRefutation ops d refutation found
    → (found ≡ Good) ↔ RefutationHolds ops d refutation

-- what is found of a verdict is good exactly where it is shown
abbrev pub VerdictsAreFoundGood : Type 0
VerdictsAreFoundGood = (ops : List Op) (verdict : Verdict) (found : Found) → FindsKey ops verdict found → (found ≡ Good) ↔ IsShown ops verdict

-- what is found of the verdicts of all keys is good exactly where each is shown
abbrev pub CertificatesAreFoundGood : Type 0
CertificatesAreFoundGood = (keys : List KeyOps) (verdicts : List Verdict) (found : Checked) → FindsAll keys verdicts found
    → (found ≡ checked.Good) ↔ EachKeyHas IsShown keys verdicts
