use Rattle.both_sides.proofs.LaterFinishes.{sides_are_later_finishes}
use Rattle.both_sides.proofs.laws.sides_are_later_finishes.Goals as goal

pub returns : goal.returns
returns c = sides_are_later_finishes
