use Rattle.live_score.proofs.CountedParts.{scores_never_fall}
use Rattle.live_score.proofs.laws.scores_never_fall.Goals as goal

pub returns : goal.returns
returns c = scores_never_fall
