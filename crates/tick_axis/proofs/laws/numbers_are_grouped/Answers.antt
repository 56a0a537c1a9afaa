use Rattle.tick_axis.proofs.Grouping.{is_grouped}
use Rattle.tick_axis.proofs.laws.numbers_are_grouped.Goals as goal

pub returns : goal.returns
returns c = is_grouped
