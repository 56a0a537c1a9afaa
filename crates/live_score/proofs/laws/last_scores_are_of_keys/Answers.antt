use Rattle.live_score.proofs.LastScores.{last_scores_are_of_keys}
use Rattle.live_score.proofs.laws.last_scores_are_of_keys.Goals as goal

pub returns : goal.returns
returns c = last_scores_are_of_keys
