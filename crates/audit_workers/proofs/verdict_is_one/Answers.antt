use Rattle.audit_workers.proofs.One.{verdict_is_one}
use Rattle.audit_workers.proofs.verdict_is_one.Goals as goal

pub returns : goal.returns
returns c = verdict_is_one
