use Rattle.recorded_laws.proofs.Readable.{runs_are_readable}
use Rattle.recorded_laws.proofs.runs_are_readable.Goals as goal

pub returns : goal.returns
returns c = runs_are_readable
