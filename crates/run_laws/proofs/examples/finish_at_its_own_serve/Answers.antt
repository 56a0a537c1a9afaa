use Rattle.std.proofs.Common.{refl, arith}
use Rattle.stale_model.specs.RecordedRuns.{AreTimed}
use Rattle.run_laws.specs.Examples.{finish_is_the_serve}
use Rattle.run_laws.proofs.examples.finish_at_its_own_serve.Goals as goal

-- the last finish and the last serve are one ticket
tickets : AreTimed finish_is_the_serve.entries finish_is_the_serve.journals → ⊥
tickets timed = let twice = timed.once 3 5 5 refl refl in omega arith

pub returns-clause-tickets : goal.returns-clause-tickets
returns-clause-tickets c = tickets

pub returns-clause-none : goal.returns-clause-none
returns-clause-none c run = tickets run.timed
