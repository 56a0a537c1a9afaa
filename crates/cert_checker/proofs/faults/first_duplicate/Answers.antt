use Rattle.std.proofs.Common.{rules, length, get_or, ◌+◌, Some, arith, ap, ◌∙◌, refl}
use Rattle.std.proofs.lemmas.List.{length-set}
use Rattle.stale_model.specs.Operations.{operations}
use Rattle.cert_checker.proofs.InOrder.{no_op}
use Rattle.cert_checker.proofs.WriteStarts.{starts_first, taken_here, next_read, next_write, starts_all}
use Rattle.cert_checker.proofs.faults.first_duplicate.Goals as goal
use Rattle.cert_checker.proofs.faults.first_duplicate.Goals.{in-Read-default, in-Write-None}

pub loop-op-init : goal.loop-op-init
loop-op-init c = record {
  ops = c.as_slice-op-items.ensures;
  size = search rules;
  slots = starts_first (operations c.args.key.now) c.refill.new.list.items (length c.args.key.now.values) c.earliest_start.result refl (search rules) c.earliest_start.ensures;
}

pub returns-in-Write-Some : goal.returns-in-Write-Some
returns-in-Write-Some c =
    let inv = c.loop-op.invariant in
    taken_here c.args.key.now c.requires c.as_slice-op-items.result.now c.loop-op.op-index inv.ops c.loop-op-test.true c.loop-op.starts.items inv.size inv.slots c.index.result.now c.index.ensures
    c.in-Write-Some.field-0-1 c.in-Write-Some.is-0 c.in-Write-Some.is-1

pub loop-op-preserved : goal.loop-op-preserved
loop-op-preserved c =
    let key = c.args.key.now in
    let items = c.as_slice-op-items.result.now in
    let i = c.loop-op.op-index in
    let inv = c.loop-op.invariant in
    let starts = c.loop-op.starts.items in
    elim c.match-op.branch [
      | in-Read-default w ↦ record {
        ops = inv.ops;
        size = rw w.starts-is inv.size;
        slots = rw w.starts-is (next_read key c.requires items i inv.ops c.loop-op-test.true starts inv.size inv.slots c.index.result.now c.index.ensures w.in-Read-default.is-0);
      }
      | in-Write-None w ↦ record {
        ops = inv.ops;
        size = rw w.starts-is (length-set starts (get_or items i no_op).value (Some w.earliest_start-in-Write-None.result) ∙ inv.size);
        slots = rw w.starts-is
            (next_write key c.requires items i inv.ops c.loop-op-test.true starts inv.size inv.slots c.index.result.now c.index.ensures
            w.earliest_start-in-Write-None.result w.in-Write-None.is-0 w.in-Write-None.is-1 w.earliest_start-in-Write-None.ensures);
      }
    ]

pub returns : goal.returns
returns c =
    let inv = c.loop-op.invariant in
    let long = ap length inv.ops in
    let past = c.loop-op-test.false in
    starts_all c.args.key.now c.requires (c.loop-op.op-index + 1) c.loop-op.starts.items inv.size inv.slots (omega arith)
