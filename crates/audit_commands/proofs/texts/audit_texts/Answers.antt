use Rattle.std.proofs.Common.{◌≡◌, rules}
use Rattle.audit_commands.proofs.Chains.{shown_have_chains}
use Rattle.audit_commands.proofs.texts.audit_texts.Goals as goal

pub cert_of-requires-clause-chains : goal.cert_of-requires-clause-chains
cert_of-requires-clause-chains g c =
    let same : c.as_slice-2.result.now ≡ c.in_ok-verdicts.verdicts = search rules in
    rw same (shown_have_chains c.args.history.now.keys c.in_ok-verdicts.verdicts c.in_ok-verdicts.ensures.shown)
