use Rattle.trace_laws.proofs.ReadBack.{runs_are_good}
use Rattle.trace_laws.proofs.runs_are_good.Goals as goal

pub returns : goal.returns
returns c = runs_are_good
