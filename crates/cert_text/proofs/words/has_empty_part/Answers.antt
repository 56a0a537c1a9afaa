use Rattle.cert_text.proofs.EmptyParts.{empty_from_first}
use Rattle.cert_text.proofs.words.has_empty_part.Goals as goal

pub loop-byte-init : goal.loop-byte-init
loop-byte-init c = empty_from_first c.args.words.now
