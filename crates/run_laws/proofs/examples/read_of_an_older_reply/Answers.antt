use Rattle.std.proofs.Common.{refl, arith}
use Rattle.run_laws.specs.Examples.{lone_write}
use Rattle.run_laws.proofs.examples.read_of_an_older_reply.Goals as goal

pub returns : goal.returns
returns c run = let value = run.freshest 1 lone_write (omega arith) refl in omega arith
