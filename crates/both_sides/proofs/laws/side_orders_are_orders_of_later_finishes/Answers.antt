use Rattle.both_sides.proofs.LaterFinishes.{side_orders_are_orders_of_later_finishes}
use Rattle.both_sides.proofs.laws.side_orders_are_orders_of_later_finishes.Goals as goal

pub returns : goal.returns
returns c = side_orders_are_orders_of_later_finishes
