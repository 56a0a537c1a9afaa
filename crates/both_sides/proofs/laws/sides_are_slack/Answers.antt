use Rattle.both_sides.proofs.MoreSlack.{sides_are_slack}
use Rattle.both_sides.proofs.laws.sides_are_slack.Goals as goal

pub returns : goal.returns
returns c = sides_are_slack
