use Rattle.order_moments.proofs.MomentLaws.{moments_end_by_finishes}
use Rattle.order_moments.proofs.laws.moments_end_by_finishes.Goals as goal

pub returns : goal.returns
returns c = moments_end_by_finishes
