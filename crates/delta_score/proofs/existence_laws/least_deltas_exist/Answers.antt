use Rattle.delta_score.proofs.Existence.{least_deltas_exist}
use Rattle.delta_score.proofs.existence_laws.least_deltas_exist.Goals as goal

pub returns : goal.returns
returns c = least_deltas_exist
