use Rattle.order_moments.specs.Examples.{overlapping_order}
use Rattle.order_moments.proofs.OwnTicks.{moments_are}
use Rattle.order_moments.proofs.examples.read_before_a_write_that_goes_on.Goals as goal

pub returns : goal.returns
returns c = moments_are overlapping_order
