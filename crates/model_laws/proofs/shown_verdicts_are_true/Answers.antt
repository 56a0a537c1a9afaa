use Rattle.model_laws.proofs.ShownTrue.{shown_verdicts_are_true}
use Rattle.model_laws.proofs.shown_verdicts_are_true.Goals as goal

pub returns : goal.returns
returns c = shown_verdicts_are_true
