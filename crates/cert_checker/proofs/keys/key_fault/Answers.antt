use Rattle.std.proofs.Common.{subst}
use Rattle.stale_model.specs.Operations.{operations}
use Rattle.cert_checker.specs.KeyFaults.{KindHolds}
use Rattle.cert_checker.proofs.KeyStates.{shown_by_kind}
use Rattle.cert_checker.proofs.keys.key_fault.Goals as goal

pub judgement_fault-requires-clause-clear : goal.judgement_fault-requires-clause-clear
judgement_fault-requires-clause-clear c =
    let kind : KindHolds (operations c.args.key.now) c.args.verdict.now = c.in_default.ensures (operations c.args.key.now) c.in_ok-state.ensures in
    subst (KindHolds (operations c.args.key.now)) c.in-Judged.is kind

pub returns-in_default-verdict : goal.returns-in_default-verdict
returns-in_default-verdict c =
    shown_by_kind (operations c.args.key.now) c.args.verdict.now c.in_default-verdict.not-Judged (c.in_default.ensures (operations c.args.key.now) c.in_ok-state.ensures)
