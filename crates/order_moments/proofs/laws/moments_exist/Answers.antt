use Rattle.std.proofs.Common.{length}
use Rattle.order_moments.proofs.OwnTicks.{moments_to, moments_are}
use Rattle.order_moments.proofs.laws.moments_exist.Goals as goal

pub returns : goal.returns
returns c = λ ordered. (moments_to ordered (length ordered), moments_are ordered)
