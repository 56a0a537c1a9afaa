use Rattle.std.proofs.Common.{arith, ap, length}
use Rattle.cert_checker.proofs.InOrder.{no_op}
use Rattle.cert_checker.proofs.Marks.{unmarked_here, marked_more}
use Rattle.cert_checker.proofs.orders.first_unmarked.Goals as goal

pub returns-then-not-marks-place : goal.returns-then-not-marks-place
returns-then-not-marks-place c =
    unmarked_here c.args.key.now c.as_slice-op-items.result.now c.args.marks.now c.loop-place.place no_op c.loop-place.invariant.ops c.loop-place-test.true c.requires
    c.if-not-marks-place.true c.loop-place.invariant.marked

pub loop-place-preserved : goal.loop-place-preserved
loop-place-preserved c =
    let long = c.requires in
    let same = ap length c.loop-place.invariant.ops in
    let low = c.loop-place-test.true in
    record {
      ops = c.loop-place.invariant.ops;
      marked = marked_more c.args.marks.now c.loop-place.place (omega arith) c.if-not-marks-place.false c.loop-place.invariant.marked;
    }
