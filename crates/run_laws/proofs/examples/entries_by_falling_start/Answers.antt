use Rattle.std.proofs.Common.{arith}
use Rattle.run_laws.proofs.examples.entries_by_falling_start.Goals as goal

pub returns : goal.returns
returns c run = let starts = run.timed.rising 0 (omega arith) in omega arith
