use Rattle.std.proofs.Common.{refl, arith}
use Rattle.run_laws.specs.Examples.{taken, first_write}
use Rattle.run_laws.proofs.examples.reply_that_was_served_too_late.Goals as goal

pub returns : goal.returns
returns c run = let early = ((run.taken 1 first_write (omega arith)).each (taken 0 6 4 2) (0, omega arith, refl)).before_finish in omega arith
