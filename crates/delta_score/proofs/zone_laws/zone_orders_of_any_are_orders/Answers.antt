use Rattle.delta_score.proofs.Ordered.{zone_orders_of_any_are_orders}
use Rattle.delta_score.proofs.zone_laws.zone_orders_of_any_are_orders.Goals as goal

pub returns : goal.returns
returns c = zone_orders_of_any_are_orders
