use Rattle.mode_texts.proofs.Leasts.{early_is_never_atomic}
use Rattle.mode_texts.proofs.two.two_verdict.Goals as goal

pub returns-in-Early : goal.returns-in-Early
returns-in-Early c =
    let is = rw c.in-Early.is at c.in_ok-rec.ensures in
    early_is_never_atomic c.args.key.now c.in-Early.rec c.requires is.0
