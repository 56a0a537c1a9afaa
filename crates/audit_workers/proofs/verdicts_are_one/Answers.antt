use Rattle.audit_workers.proofs.One.{verdicts_are_one}
use Rattle.audit_workers.proofs.verdicts_are_one.Goals as goal

pub returns : goal.returns
returns c = verdicts_are_one
