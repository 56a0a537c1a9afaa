use Rattle.std.proofs.Common.{length, ap, ◌∙◌, arith}
use Rattle.stale_model.specs.declared.KeyOps.{KeyOps}
use Rattle.cert_checker.proofs.StaleKey.{test_valid, absent_matched}
use Rattle.cert_checker.proofs.tests.absent_key.Goals as goal

pub returns-clause-valid : goal.returns-clause-valid
returns-clause-valid c =
    let key : KeyOps = record { name = c.in_ok-name.name; values = c.from_vec.result; ops = c.from_vec-2.result } in
    test_valid 0 key (omega arith) (ap length c.from_vec.ensures ∙ c.in_ok-values.ensures) (c.from_vec-2.ensures ∙ c.in_ok-ops.ensures)

pub returns-clause-matched : goal.returns-clause-matched
returns-clause-matched c =
    let key : KeyOps = record { name = c.in_ok-name.name; values = c.from_vec.result; ops = c.from_vec-2.result } in
    absent_matched key (c.from_vec-2.ensures ∙ c.in_ok-ops.ensures)
