use Rattle.delta_score.proofs.Theorem.{zone_theorem}
use Rattle.delta_score.proofs.zone_laws.zone_theorem.Goals as goal

pub returns : goal.returns
returns c = zone_theorem
