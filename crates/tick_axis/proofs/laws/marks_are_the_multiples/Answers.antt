use Rattle.tick_axis.proofs.Marking.{are_marks}
use Rattle.tick_axis.proofs.laws.marks_are_the_multiples.Goals as goal

pub returns : goal.returns
returns c = are_marks
