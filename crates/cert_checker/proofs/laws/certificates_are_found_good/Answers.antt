use Rattle.cert_checker.proofs.ExactKeys.{certificates_are_found_good}
use Rattle.cert_checker.proofs.laws.certificates_are_found_good.Goals as goal

pub returns : goal.returns
returns c = certificates_are_found_good
