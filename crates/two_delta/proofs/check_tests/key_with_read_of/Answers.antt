use Rattle.std.proofs.Common.{length, ap, ◌∙◌, arith}
use Rattle.stale_model.specs.declared.KeyOps.{KeyOps}
use Rattle.two_delta.proofs.TestKeys.{test_valid, test_matched}
use Rattle.two_delta.proofs.check_tests.key_with_read_of.Goals as goal

pub returns-clause-valid : goal.returns-clause-valid
returns-clause-valid c =
    let key : KeyOps = record { name = c.in_ok-name.name; values = c.from_vec.result; ops = c.from_vec-2.result } in
    test_valid c.args.value key (omega arith) (ap length c.from_vec.ensures ∙ c.in_ok-values.ensures) (c.from_vec-2.ensures ∙ c.in_ok-ops.ensures)

pub returns-clause-matched : goal.returns-clause-matched
returns-clause-matched c =
    let key : KeyOps = record { name = c.in_ok-name.name; values = c.from_vec.result; ops = c.from_vec-2.result } in
    test_matched c.args.value key (omega arith) (c.from_vec-2.ensures ∙ c.in_ok-ops.ensures)
