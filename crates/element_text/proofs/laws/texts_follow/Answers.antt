use Rattle.element_text.proofs.Follow.{texts_follow}
use Rattle.element_text.proofs.laws.texts_follow.Goals as goal

pub returns : goal.returns
returns c = texts_follow
