use Rattle.std.proofs.lemmas.Result.{IfOk-weaker}
use Rattle.stale_model.specs.Operations.{operations}
use Rattle.stale_model.specs.PrintedVerdicts.{IsPrintedVerdict}
use Rattle.stale_model.specs.Truth.{IsTrueOf}
use Rattle.stale_model.specs.Shown.{IsShown}
use Rattle.audit_workers.proofs.Truth.{verdicts_are_true, verdicts_are_shown}
use Rattle.audit_workers.proofs.judge_key.Goals as goal

pub returns-clause-truth : goal.returns-clause-truth
returns-clause-truth c =
    let ops = operations c.args.key.now in
    IfOk-weaker c.verdict_of.result (IsPrintedVerdict ops) (IsTrueOf ops) (λ verdict is. verdicts_are_true c.args.key.now verdict c.requires is) c.verdict_of.ensures

pub returns-clause-shown : goal.returns-clause-shown
returns-clause-shown c =
    let ops = operations c.args.key.now in
    IfOk-weaker c.verdict_of.result (IsPrintedVerdict ops) (IsShown ops) (λ verdict is. verdicts_are_shown c.args.key.now verdict c.requires is) c.verdict_of.ensures
