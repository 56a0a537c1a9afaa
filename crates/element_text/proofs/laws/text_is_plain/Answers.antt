use Rattle.element_text.proofs.Plain.{text_is_plain}
use Rattle.element_text.proofs.laws.text_is_plain.Goals as goal

pub returns : goal.returns
returns c = text_is_plain
