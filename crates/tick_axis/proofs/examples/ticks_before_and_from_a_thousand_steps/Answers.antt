use Rattle.std.proofs.Common.{refl}
use Rattle.tick_axis.specs.Marks.{step_of}
use Rattle.tick_axis.proofs.examples.ticks_before_and_from_a_thousand_steps.Goals as goal

pub returns-clause-before : goal.returns-clause-before
unfolding step_of
returns-clause-before c = refl

pub returns-clause-from : goal.returns-clause-from
unfolding step_of
returns-clause-from c = refl
