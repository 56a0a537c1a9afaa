use Rattle.std.proofs.Common.{◌≡◌, rules}
use Rattle.audit_commands.specs.Generated.{generated_text}
use Rattle.audit_commands.proofs.Generating.{no_fault}
use Rattle.audit_commands.proofs.generated.generated_history.Goals as goal

pub unreachable-requires : goal.unreachable-requires
unreachable-requires c =
    let text : c.as_slice.result.now ≡ generated_text c.args.workload = search rules in
    no_fault c.args.workload c.in-Err.fault c.read_history.result c.requires c.in-Err.is (rw text at c.read_history.ensures.read) c.in_default.not-Memory
