use Rattle.live_score.proofs.CountedParts.{reads_after_their_writes_are_not_early}
use Rattle.live_score.proofs.laws.reads_after_their_writes_are_not_early.Goals as goal

pub returns : goal.returns
returns c = reads_after_their_writes_are_not_early
