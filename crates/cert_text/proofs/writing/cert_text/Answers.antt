use Rattle.cert_text.proofs.WrittenLines.{whole_text}
use Rattle.cert_text.proofs.writing.cert_text.Goals as goal

pub returns : goal.returns
returns c = whole_text c.args.verdicts.now _ _ _ c.in_ok-text.ensures.ok c.in_ok-push_parts.ensures c.in_ok-push_str.ensures.bytes
