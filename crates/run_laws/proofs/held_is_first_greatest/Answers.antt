use Rattle.run_laws.proofs.Greatest.{held_is}
use Rattle.run_laws.proofs.held_is_first_greatest.Goals as goal

pub returns : goal.returns
returns c = held_is
