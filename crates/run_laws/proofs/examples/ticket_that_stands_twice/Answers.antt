use Rattle.std.proofs.Common.{refl, arith}
use Rattle.run_laws.proofs.examples.ticket_that_stands_twice.Goals as goal

pub returns : goal.returns
returns c run = let twice = run.timed.once 1 7 8 refl refl in omega arith
