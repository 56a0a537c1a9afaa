use Rattle.tick_axis.proofs.Marking.{is_base}
use Rattle.tick_axis.proofs.laws.labels_are_short.Goals as goal

pub returns : goal.returns
returns c = λ s scale fits. is_base s fits
