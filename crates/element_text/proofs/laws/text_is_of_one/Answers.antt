use Rattle.element_text.proofs.ReadsBack.{of_one}
use Rattle.element_text.proofs.laws.text_is_of_one.Goals as goal

pub returns : goal.returns
returns c = of_one
