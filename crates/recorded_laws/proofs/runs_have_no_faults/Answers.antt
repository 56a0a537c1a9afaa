use Rattle.recorded_laws.proofs.ReadBack.{runs_have_no_faults}
use Rattle.recorded_laws.proofs.runs_have_no_faults.Goals as goal

pub returns : goal.returns
returns c = runs_have_no_faults
