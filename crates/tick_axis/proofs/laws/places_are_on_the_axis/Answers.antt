use Rattle.tick_axis.proofs.Places.{on_axis}
use Rattle.tick_axis.proofs.laws.places_are_on_the_axis.Goals as goal

pub returns : goal.returns
returns c = on_axis
