use Rattle.audit_workers.proofs.Truth.{infinite_is_exact}
use Rattle.audit_workers.proofs.infinite_is_exact.Goals as goal

pub returns : goal.returns
returns c = infinite_is_exact
