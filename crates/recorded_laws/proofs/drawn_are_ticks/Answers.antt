use Rattle.recorded_laws.proofs.Ticks.{drawn_are_ticks}
use Rattle.recorded_laws.proofs.drawn_are_ticks.Goals as goal

pub returns : goal.returns
returns c = drawn_are_ticks
