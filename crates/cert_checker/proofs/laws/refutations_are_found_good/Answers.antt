use Rattle.cert_checker.proofs.ExactKeys.{refutations_are_found_good}
use Rattle.cert_checker.proofs.laws.refutations_are_found_good.Goals as goal

pub returns : goal.returns
returns c = refutations_are_found_good
