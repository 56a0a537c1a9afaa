use Rattle.trace_laws.proofs.OneAnswer.{answers_are_one}
use Rattle.trace_laws.proofs.answers_are_one.Goals as goal

pub returns : goal.returns
returns c = answers_are_one
