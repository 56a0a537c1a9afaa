use Rattle.audit_workers.proofs.Theorem.{yes_is_exact}
use Rattle.audit_workers.proofs.yes_is_exact.Goals as goal

pub returns : goal.returns
returns c = yes_is_exact
