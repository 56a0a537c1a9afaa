use Rattle.audit_commands.proofs.Written.{written_are_good}
use Rattle.audit_commands.proofs.laws.written_certificates_are_good.Goals as goal

pub returns : goal.returns
returns c = written_are_good
