use Rattle.cert_checker.proofs.ExactKeys.{verdicts_are_found_good}
use Rattle.cert_checker.proofs.laws.verdicts_are_found_good.Goals as goal

pub returns : goal.returns
returns c = verdicts_are_found_good
