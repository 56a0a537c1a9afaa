use Rattle.std.proofs.Common.{refl, sym, true≢false, length, ap, arith}
use Rattle.stale_model.specs.Operations.{initial_write, operations}
use Rattle.clusters.proofs.Records.{rising_operations, item, here, there_is}
use Rattle.clusters.proofs.Scanning.{none_start, none_next, none_all, least_here}
use Rattle.both_sides.specs.LeastSides.{IsEarlyOnBothSides}
use Rattle.both_sides.proofs.WriteStarts.{early_is_read, early_here, not_early_here}
use Rattle.both_sides.proofs.early.first_early.Goals as goal

pub loop-op-init : goal.loop-op-init
loop-op-init c =
    let key = c.args.key.now in
    let ops = operations key in
    record {
      ops = c.as_slice-op-items.ensures;
      none = none_start (IsEarlyOnBothSides ops c.args.g) initial_write key.ops (early_is_read ops c.args.g) refl;
    }

pub returns-then-is_early : goal.returns-then-is_early
returns-then-is_early c =
    let key = c.args.key.now in
    let ops = operations key in
    let g = c.args.g in
    let i = c.loop-op.op-index in
    let inv = c.loop-op.invariant in
    let a = item c.as_slice-op-items.result.now i in
    let at = here _ key i c.requires.valid inv.ops c.loop-op-test.true in
    let early = early_here key g c.requires.valid c.requires.matched c.args.starts.now c.requires.starts a (there_is key i a at) (c.if-is_early.ensures.0 refl) in
    least_here (IsEarlyOnBothSides ops g) initial_write key.ops (early_is_read ops g) i inv.none a (rising_operations key c.requires.valid) at.at early

pub loop-op-preserved : goal.loop-op-preserved
loop-op-preserved c =
    let key = c.args.key.now in
    let ops = operations key in
    let g = c.args.g in
    let i = c.loop-op.op-index in
    let inv = c.loop-op.invariant in
    let a = item c.as_slice-op-items.result.now i in
    let at = here _ key i c.requires.valid inv.ops c.loop-op-test.true in
    let in_time = not_early_here key g c.requires.valid c.requires.matched c.args.starts.now c.requires.starts a (there_is key i a at) (λ h. true≢false (sym (c.if-is_early.ensures.1 h))) in
    record {
      ops = inv.ops;
      none = none_next (IsEarlyOnBothSides ops g) initial_write key.ops (early_is_read ops g) i inv.none a at.at in_time;
    }

pub returns : goal.returns
returns c =
    let key = c.args.key.now in
    let ops = operations key in
    let inv = c.loop-op.invariant in
    let past = c.loop-op-test.false in
    let n = ap length inv.ops in
    none_all (IsEarlyOnBothSides ops c.args.g) initial_write key.ops (early_is_read ops c.args.g) c.loop-op.op-index inv.none (omega arith)
