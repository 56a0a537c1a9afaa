use Rattle.element_text.proofs.Follow.{joined_same}
use Rattle.element_text.proofs.laws.joined_elements_are_same.Goals as goal

pub returns : goal.returns
returns c = joined_same
