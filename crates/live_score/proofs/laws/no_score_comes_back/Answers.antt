use Rattle.live_score.proofs.CountedParts.{no_score_comes_back}
use Rattle.live_score.proofs.laws.no_score_comes_back.Goals as goal

pub returns : goal.returns
returns c = no_score_comes_back
