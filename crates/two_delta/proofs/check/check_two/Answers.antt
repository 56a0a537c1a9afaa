use Rattle.std.proofs.Common.{subst}
use Rattle.stale_model.specs.Operations.{operations}
use Rattle.cert_checker.specs.OrderFaults.{FindsOrder}
use Rattle.two_delta.proofs.Found.{no_order}
use Rattle.two_delta.proofs.check.check_two.Goals as goal

pub returns-in-Bad : goal.returns-in-Bad
returns-in-Bad c =
    let ops = operations c.args.key.now in
    let finds = subst (FindsOrder ops c.args.delta 2 c.args.order.now) c.in-Bad.is c.in_ok-check_order.ensures in
    (λ never. absurd (cc never), λ shown. absurd (no_order ops c.args.delta 2 c.args.order.now c.in-Bad.rule c.in-Bad.rec finds shown.is_order))
