use Rattle.order_moments.specs.Examples.{stale_order}
use Rattle.order_moments.proofs.OwnTicks.{moments_are}
use Rattle.order_moments.proofs.examples.read_three_ticks_stale.Goals as goal

pub returns : goal.returns
returns c = moments_are stale_order
