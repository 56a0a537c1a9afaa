use Rattle.audit_workers.proofs.Theorem.{verdict_exists}
use Rattle.audit_workers.proofs.verdict_exists.Goals as goal

pub returns : goal.returns
returns c = verdict_exists
