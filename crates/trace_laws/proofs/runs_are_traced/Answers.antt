use Rattle.trace_laws.proofs.ReadBack.{runs_are_traced}
use Rattle.trace_laws.proofs.runs_are_traced.Goals as goal

pub returns : goal.returns
returns c = runs_are_traced
