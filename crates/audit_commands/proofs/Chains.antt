-- Verdicts that are shown have chains, so that they have a text.
use Rattle.std.proofs.Common.{List, arith}
use Rattle.std.specs.Prelude.{IsTrue}
use Rattle.std.specs.List.{list_all}
use Rattle.stale_model.specs.declared.KeyOps.{KeyOps}
use Rattle.stale_model.specs.declared.Verdict.{Verdict}
use Rattle.stale_model.specs.Operations.{operations}
use Rattle.stale_model.specs.Truth.{EachKeyHas}
use Rattle.stale_model.specs.Shown.{IsShown}
use Rattle.stale_model.proofs.Places.{at_its_place, something_at}
use Rattle.cert_text.specs.Certificates.{has_chains}
use Rattle.cert_text.proofs.ShownChains.{all_pass, shown_have_chains as verdict_has_chains}

pub shown_have_chains : (keys : List KeyOps) (verdicts : List Verdict) → EachKeyHas IsShown keys verdicts → IsTrue (list_all has_chains verdicts)
shown_have_chains keys verdicts shown = all_pass has_chains verdicts (λ v c.
    let many = shown.as_many in
    let low = c.1 in
    let (key, at) = something_at keys c.0 (omega arith) in
    verdict_has_chains (operations key) v (shown.each c.0 key v at (at_its_place verdicts v c)))
