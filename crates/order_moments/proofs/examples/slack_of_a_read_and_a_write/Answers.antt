use Rattle.order_moments.specs.Examples.{slack_order}
use Rattle.order_moments.proofs.OwnTicks.{moments_are}
use Rattle.order_moments.proofs.examples.slack_of_a_read_and_a_write.Goals as goal

pub returns : goal.returns
returns c = moments_are slack_order
