use Rattle.lbt_epochs.proofs.AnswersThere.{answers_exist}
use Rattle.lbt_epochs.proofs.two_laws.answers_exist.Goals as goal

pub returns : goal.returns
returns c = answers_exist
