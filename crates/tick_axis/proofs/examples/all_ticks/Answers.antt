use Rattle.std.proofs.Common.{refl}
use Rattle.tick_axis.specs.Marks.{step_of}
use Rattle.tick_axis.proofs.examples.all_ticks.Goals as goal

pub returns-clause-step : goal.returns-clause-step
unfolding step_of
returns-clause-step c = refl
