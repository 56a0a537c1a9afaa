use Rattle.std.proofs.Common.{◌≡◌, ◌-◌, Some, ap, subst}
use Rattle.std.specs.Option.{option_copied}
use Rattle.stale_model.specs.Operations.{operations}
use Rattle.cert_checker.specs.RefutationFaults.{FindsRefutation}
use Rattle.two_delta.specs.LeastTwos.{RefutationShows}
use Rattle.two_delta.proofs.Found.{no_refutation}
use Rattle.two_delta.proofs.check.none_below.Goals as goal

pub returns-in-Bad : goal.returns-in-Bad
returns-in-Bad c =
    let ops = operations c.args.key.now in
    let refutation = c.in-Some-2.refutation.now in
    let finds = subst (FindsRefutation ops (c.args.delta - 1) refutation) c.in-Bad.is c.in_ok-check_refutation_at-in-Some-2.ensures in
    let some : option_copied c.args.refutation ≡ Some refutation = ap option_copied c.in-Some-2.is in
    (λ never. absurd (cc never), λ shows. absurd (no_refutation ops (c.args.delta - 1) refutation c.in-Bad.rule c.in-Bad.rec finds (subst (RefutationShows ops c.args.delta) some shows).1))
