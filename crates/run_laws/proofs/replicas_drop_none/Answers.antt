use Rattle.run_laws.proofs.Admitted.{replicas_drop_none}
use Rattle.run_laws.proofs.replicas_drop_none.Goals as goal

pub returns : goal.returns
returns c = replicas_drop_none
