use Rattle.tick_axis.proofs.Stepping.{is_step}
use Rattle.tick_axis.proofs.laws.steps_are_least.Goals as goal

pub returns : goal.returns
returns c = λ s scale fits. is_step s fits
