use Rattle.order_moments.proofs.MomentLaws.{moments_before_starts_are_forced}
use Rattle.order_moments.proofs.laws.moments_before_starts_are_forced.Goals as goal

pub returns : goal.returns
returns c = moments_before_starts_are_forced
