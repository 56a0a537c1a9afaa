use Rattle.order_moments.specs.Examples.{twice_stale_order}
use Rattle.order_moments.proofs.OwnTicks.{moments_are}
use Rattle.order_moments.proofs.examples.reads_stale_together.Goals as goal

pub returns : goal.returns
returns c = moments_are twice_stale_order
