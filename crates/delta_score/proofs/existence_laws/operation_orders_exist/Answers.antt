use Rattle.delta_score.proofs.Existence.{operation_orders_exist}
use Rattle.delta_score.proofs.existence_laws.operation_orders_exist.Goals as goal

pub returns : goal.returns
returns c = operation_orders_exist
