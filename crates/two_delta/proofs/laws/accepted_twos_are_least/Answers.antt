use Rattle.two_delta.proofs.ShownTwos.{accepted_twos_are_least}
use Rattle.two_delta.proofs.laws.accepted_twos_are_least.Goals as goal

pub returns : goal.returns
returns c = accepted_twos_are_least
