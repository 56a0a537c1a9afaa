use Rattle.audit_workers.proofs.Theorem.{two_theorem}
use Rattle.audit_workers.proofs.two_theorem.Goals as goal

pub returns : goal.returns
returns c = two_theorem
