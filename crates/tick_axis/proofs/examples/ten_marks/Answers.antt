use Rattle.std.proofs.Common.{refl}
use Rattle.tick_axis.specs.Marks.{step_of}
use Rattle.tick_axis.proofs.examples.ten_marks.Goals as goal

pub returns-clause-from_0 : goal.returns-clause-from_0
unfolding step_of
returns-clause-from_0 c = refl

pub returns-clause-from_1 : goal.returns-clause-from_1
unfolding step_of
returns-clause-from_1 c = refl
