use Rattle.recorded_laws.proofs.ReadBack.{runs_read_back}
use Rattle.recorded_laws.proofs.runs_read_back.Goals as goal

pub returns : goal.returns
returns c = runs_read_back
