use Rattle.order_moments.specs.Examples.{open_order}
use Rattle.order_moments.proofs.OwnTicks.{moments_are}
use Rattle.order_moments.proofs.examples.write_that_never_ended.Goals as goal

pub returns : goal.returns
returns c = moments_are open_order
