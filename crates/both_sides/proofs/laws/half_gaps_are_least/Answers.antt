use Rattle.both_sides.proofs.FreeClusters.{half_gaps_are_least}
use Rattle.both_sides.proofs.laws.half_gaps_are_least.Goals as goal

pub returns : goal.returns
returns c = half_gaps_are_least
