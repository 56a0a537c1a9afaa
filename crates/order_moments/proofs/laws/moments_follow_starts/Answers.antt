use Rattle.order_moments.proofs.MomentLaws.{moments_follow_starts}
use Rattle.order_moments.proofs.laws.moments_follow_starts.Goals as goal

pub returns : goal.returns
returns c = moments_follow_starts
