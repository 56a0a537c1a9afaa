use Rattle.cert_text.proofs.ShownChains.{shown_have_chains}
use Rattle.cert_text.proofs.shown_verdicts_have_chains.Goals as goal

pub returns : goal.returns
returns c = shown_have_chains
