use Rattle.zones.proofs.Existence.{zone_orders_exist}
use Rattle.zones.proofs.laws.zone_orders_exist.Goals as goal

pub returns : goal.returns
returns c = zone_orders_exist
