use Rattle.audit_workers.proofs.Truth.{verdicts_are_shown}
use Rattle.audit_workers.proofs.verdicts_are_shown.Goals as goal

pub returns : goal.returns
returns c = verdicts_are_shown
