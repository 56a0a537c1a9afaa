-- What is found bad isn't so.
use Rattle.std.proofs.Common.{◌≡◌, ℕ, List}
use Rattle.stale_model.specs.declared.Op.{Op}
use Rattle.stale_model.specs.declared.Refutation.{Refutation}
use Rattle.stale_model.specs.Orders.{IsOrder}
use Rattle.stale_model.specs.Refutations.{RefutationHolds}
use Rattle.cert_checker.specs.declared.Found.TheVariants.{Good, Bad}
use Rattle.cert_checker.specs.OrderFaults.{FindsOrder}
use Rattle.cert_checker.specs.RefutationFaults.{FindsRefutation}
use Rattle.cert_checker.proofs.Exact.{orders_are_found_good}
use Rattle.cert_checker.proofs.ExactKeys.{refutations_are_found_good}

pub no_order : (ops : List Op) (d k : ℕ) (order : List ℕ) (rule rec : ℕ) → FindsOrder ops d k order (Bad rule rec) → IsOrder ops d k order → ⊥
no_order ops d k order rule rec finds is = let e : Bad rule rec ≡ Good = (orders_are_found_good ops d k order (Bad rule rec) finds).1 is in cc

pub no_refutation : (ops : List Op) (d : ℕ) (refutation : Refutation) (rule rec : ℕ) → FindsRefutation ops d refutation (Bad rule rec) → RefutationHolds ops d refutation → ⊥
no_refutation ops d refutation rule rec finds holds = let e : Bad rule rec ≡ Good = (refutations_are_found_good ops d refutation (Bad rule rec) finds).1 holds in cc
