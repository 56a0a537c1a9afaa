use Rattle.cert_checker.proofs.Exact.{orders_are_found_good}
use Rattle.cert_checker.proofs.laws.orders_are_found_good.Goals as goal

pub returns : goal.returns
returns c = orders_are_found_good
