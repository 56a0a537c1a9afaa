use Rattle.order_moments.proofs.MomentLaws.{moments_rise}
use Rattle.order_moments.proofs.laws.moments_rise.Goals as goal

pub returns : goal.returns
returns c = moments_rise
