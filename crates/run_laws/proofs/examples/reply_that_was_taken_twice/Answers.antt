use Rattle.std.proofs.Common.{refl, arith}
use Rattle.run_laws.specs.Examples.{lone_write}
use Rattle.run_laws.proofs.examples.reply_that_was_taken_twice.Goals as goal

pub returns : goal.returns
returns c run = let twice = (run.taken 1 lone_write (omega arith)).apart 0 1 0 refl refl in omega arith
