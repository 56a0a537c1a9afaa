use Rattle.run_laws.proofs.Stamps.{reads_return_earlier_writes}
use Rattle.run_laws.proofs.reads_return_earlier_writes.Goals as goal

pub returns : goal.returns
returns c = reads_return_earlier_writes
