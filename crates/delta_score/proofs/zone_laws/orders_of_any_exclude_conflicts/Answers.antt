use Rattle.delta_score.proofs.Excluded.{orders_of_any_exclude_conflicts}
use Rattle.delta_score.proofs.zone_laws.orders_of_any_exclude_conflicts.Goals as goal

pub returns : goal.returns
returns c = orders_of_any_exclude_conflicts
