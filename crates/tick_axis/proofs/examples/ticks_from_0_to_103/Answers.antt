use Rattle.std.proofs.Common.{refl}
use Rattle.tick_axis.specs.Marks.{step_of}
use Rattle.tick_axis.proofs.examples.ticks_from_0_to_103.Goals as goal

pub returns-clause-step : goal.returns-clause-step
unfolding step_of
returns-clause-step c = refl

pub returns-clause-marks : goal.returns-clause-marks
unfolding step_of
returns-clause-marks c = refl
