use Rattle.run_laws.proofs.Parts.{parts_are_recorded}
use Rattle.run_laws.proofs.parts_are_recorded.Goals as goal

pub returns : goal.returns
returns c = parts_are_recorded
