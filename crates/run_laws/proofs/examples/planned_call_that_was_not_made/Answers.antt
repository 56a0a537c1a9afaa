use Rattle.std.proofs.Common.{arith}
use Rattle.run_laws.proofs.examples.planned_call_that_was_not_made.Goals as goal

pub returns : goal.returns
returns c run = let many = run.planned.as_many 0 (omega arith) in omega arith
