use Rattle.run_laws.proofs.Greatest.{freshest_is}
use Rattle.run_laws.proofs.freshest_is_first_greatest.Goals as goal

pub returns : goal.returns
returns c = freshest_is
