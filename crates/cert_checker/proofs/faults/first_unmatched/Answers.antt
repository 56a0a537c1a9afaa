use Rattle.stale_model.specs.Operations.{operations}
use Rattle.stale_model.specs.Faults.{IsUnmatched}
use Rattle.cert_checker.proofs.FirstFaults.{free_write, free_all}
use Rattle.cert_checker.proofs.WriteStarts.{unmatched_here, matched_here}
use Rattle.cert_checker.proofs.faults.first_unmatched.Goals as goal
use Rattle.cert_checker.proofs.faults.first_unmatched.Goals.{in-Read-Some, in-Write-default}

pub returns-in-Read-None : goal.returns-in-Read-None
returns-in-Read-None c =
    let inv = c.loop-op.invariant in
    unmatched_here c.args.key.now c.requires.valid c.args.starts.now c.requires.starts c.as_slice-op-items.result.now c.loop-op.op-index inv.ops c.loop-op-test.true
    inv.free c.in-Read-None.is-0 c.in-Read-None.is-1

pub loop-op-preserved : goal.loop-op-preserved
loop-op-preserved c =
    let key = c.args.key.now in
    let items = c.as_slice-op-items.result.now in
    let i = c.loop-op.op-index in
    let inv = c.loop-op.invariant in
    elim c.match-op.branch [
      | in-Read-Some w ↦ record {
        ops = inv.ops;
        free = matched_here key c.requires.valid c.args.starts.now c.requires.starts items i inv.ops c.loop-op-test.true inv.free w.in-Read-Some.field-0-1 w.in-Read-Some.is-1;
      }
      | in-Write-default w ↦ record {
        ops = inv.ops;
        free = free_write key items i inv.ops (IsUnmatched (operations key)) (λ b f. f.read) inv.free c.loop-op-test.true w.in-Write-default.is-0;
      }
    ]

pub returns : goal.returns
returns c =
    let key = c.args.key.now in
    let inv = c.loop-op.invariant in
    free_all key c.as_slice-op-items.result.now c.loop-op.op-index inv.ops (IsUnmatched (operations key)) (λ b f. f.read) inv.free c.loop-op-test.false
