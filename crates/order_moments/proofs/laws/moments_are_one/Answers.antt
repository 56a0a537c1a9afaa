use Rattle.order_moments.proofs.MomentLaws.{moments_are_one}
use Rattle.order_moments.proofs.laws.moments_are_one.Goals as goal

pub returns : goal.returns
returns c = moments_are_one
