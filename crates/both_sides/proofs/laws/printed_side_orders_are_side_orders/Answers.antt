use Rattle.both_sides.proofs.FreeClusters.{printed_side_orders_are_side_orders}
use Rattle.both_sides.proofs.laws.printed_side_orders_are_side_orders.Goals as goal

pub returns : goal.returns
returns c = printed_side_orders_are_side_orders
