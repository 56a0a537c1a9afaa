use Rattle.lbt_epochs.proofs.RefutedAnswers.{refutations_are_answered}
use Rattle.lbt_epochs.proofs.two_laws.refutations_are_answered.Goals as goal

pub returns : goal.returns
returns c = refutations_are_answered
