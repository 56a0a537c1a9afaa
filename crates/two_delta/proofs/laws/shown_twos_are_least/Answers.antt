use Rattle.two_delta.proofs.ShownTwos.{shown_twos_are_least}
use Rattle.two_delta.proofs.laws.shown_twos_are_least.Goals as goal

pub returns : goal.returns
returns c = shown_twos_are_least
