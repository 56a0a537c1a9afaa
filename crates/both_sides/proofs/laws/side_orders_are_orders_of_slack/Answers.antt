use Rattle.both_sides.proofs.MoreSlack.{side_orders_are_orders_of_slack}
use Rattle.both_sides.proofs.laws.side_orders_are_orders_of_slack.Goals as goal

pub returns : goal.returns
returns c = side_orders_are_orders_of_slack
