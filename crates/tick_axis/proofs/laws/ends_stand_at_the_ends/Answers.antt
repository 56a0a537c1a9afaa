use Rattle.tick_axis.proofs.Places.{has_ends}
use Rattle.tick_axis.proofs.laws.ends_stand_at_the_ends.Goals as goal

pub returns : goal.returns
returns c = has_ends
