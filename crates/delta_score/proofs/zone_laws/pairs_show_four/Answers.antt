use Rattle.delta_score.proofs.Pairs.{pairs_show_four}
use Rattle.delta_score.proofs.zone_laws.pairs_show_four.Goals as goal

pub returns : goal.returns
returns c = pairs_show_four
