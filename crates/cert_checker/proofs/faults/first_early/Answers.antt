use Rattle.std.proofs.Common.{arith}
use Rattle.stale_model.specs.Operations.{operations}
use Rattle.stale_model.specs.Faults.{IsEarly}
use Rattle.cert_checker.proofs.FirstFaults.{free_write, free_all}
use Rattle.cert_checker.proofs.WriteStarts.{early_here, timely_here, unwritten_here}
use Rattle.cert_checker.proofs.faults.first_early.Goals as goal
use Rattle.cert_checker.proofs.faults.first_early.Goals.{in-Read-Some+else-latest_finish-start, in-Read-None, in-Write-default}

pub returns-then-latest_finish-start : goal.returns-then-latest_finish-start
returns-then-latest_finish-start c =
    let inv = c.loop-op.invariant in
    let finish = c.latest_finish.ensures in
    let less = c.if-latest_finish-start.true in
    early_here c.args.key.now c.requires.valid c.args.starts.now c.requires.starts c.as_slice-op-items.result.now c.loop-op.op-index inv.ops c.loop-op-test.true
    inv.free c.in-Read-Some.start c.in-Read-Some.is-0 c.in-Read-Some.is-1 (omega arith)

pub loop-op-preserved : goal.loop-op-preserved
loop-op-preserved c =
    let key = c.args.key.now in
    let starts = c.args.starts.now in
    let items = c.as_slice-op-items.result.now in
    let i = c.loop-op.op-index in
    let inv = c.loop-op.invariant in
    elim c.match-op.branch [
      | in-Read-Some+else-latest_finish-start w ↦ record {
        ops = inv.ops;
        free =
            let finish = w.latest_finish.ensures in
            let more = w.if-latest_finish-start.false in
            timely_here key c.requires.valid starts c.requires.starts items i inv.ops c.loop-op-test.true inv.free w.in-Read-Some.start w.in-Read-Some.is-1 (omega arith);
      }
      | in-Read-None w ↦ record {
        ops = inv.ops;
        free = unwritten_here key c.requires.valid starts c.requires.starts items i inv.ops c.loop-op-test.true inv.free w.in-Read-None.is-1;
      }
      | in-Write-default w ↦ record {
        ops = inv.ops;
        free = free_write key items i inv.ops (IsEarly (operations key)) (λ b f. f.read) inv.free c.loop-op-test.true w.in-Write-default.is-0;
      }
    ]

pub returns : goal.returns
returns c =
    let key = c.args.key.now in
    let inv = c.loop-op.invariant in
    free_all key c.as_slice-op-items.result.now c.loop-op.op-index inv.ops (IsEarly (operations key)) (λ b f. f.read) inv.free c.loop-op-test.false
