use Rattle.both_sides.proofs.FreeClusters.{pairs_hold_on_both_sides}
use Rattle.both_sides.proofs.laws.pairs_hold_on_both_sides.Goals as goal

pub returns : goal.returns
returns c = pairs_hold_on_both_sides
