use Rattle.cert_text.proofs.OneText.{one_text}
use Rattle.cert_text.proofs.what_is_read_has_one_text.Goals as goal

pub returns : goal.returns
returns c = one_text
