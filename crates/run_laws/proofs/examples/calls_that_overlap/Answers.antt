use Rattle.std.proofs.Common.{[], ◌∷◌, refl, arith}
use Rattle.stale_model.specs.declared.Kind.TheVariants.{Write}
use Rattle.run_laws.specs.Examples.{taken, call, second_write}
use Rattle.run_laws.proofs.examples.calls_that_overlap.Goals as goal

pub returns : goal.returns
returns c run = let turn = run.timed.one_by_one 0 0 (call 0 1 Write 1 1 7 (taken 0 2 1 1 ∷ [])) second_write refl refl in omega arith
