use Rattle.delta_score.proofs.Theorem.{zone_theorem_of_any}
use Rattle.delta_score.proofs.zone_laws.zone_theorem_of_any.Goals as goal

pub returns : goal.returns
returns c = zone_theorem_of_any
