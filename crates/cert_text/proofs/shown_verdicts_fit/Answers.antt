use Rattle.cert_text.proofs.ShownFits.{shown_fit}
use Rattle.cert_text.proofs.shown_verdicts_fit.Goals as goal

pub returns : goal.returns
returns c = shown_fit
