use Rattle.std.proofs.Common.{refl, length, ap, Some, None, get_or, arith}
use Rattle.stale_model.specs.Operations.{initial_write, operations}
use Rattle.stale_model.specs.Faults.{IsUnmatched, IsEarly}
use Rattle.clusters.proofs.Records.{rising_operations, item, here, there_is}
use Rattle.clusters.proofs.Growing.{slot_is, slot_empty}
use Rattle.clusters.proofs.Gathering.{seen_none, seen_more, seen_all}
use Rattle.clusters.proofs.Scanning.{none_start, none_next, none_all, least_here, unmatched_reads, early_reads, unmatched_here, matched_here, early_next, early_all}
use Rattle.clusters.proofs.gather.Goals as goal

pub loop-op-init : goal.loop-op-init
loop-op-init c =
    let key = c.args.key.now in
    let ops = operations key in
    record {
      ops = c.as_slice-op-items.ensures;
      clusters = seen_none ops (length key.values) c.args.table.now c.requires.writes;
      matched = none_start (IsUnmatched ops) initial_write key.ops (unmatched_reads ops) refl;
      first_early = none_start (IsEarly ops) initial_write key.ops (early_reads ops) refl;
    }

pub returns-in_default : goal.returns-in_default
returns-in_default c =
    let key = c.args.key.now in
    let ops = operations key in
    let i = c.loop-op.op-index in
    let inv = c.loop-op.invariant in
    let table = c.loop-op.table in
    let a = item c.as_slice-op-items.result.now i in
    let at = here _ key i c.requires.valid inv.ops c.loop-op-test.true in
    let empty = slot_is key inv.clusters at None (slot_empty (get_or table a.value None) (λ x e. c.in_default.not-Some x e)) in
    let unmatched = unmatched_here ops _ (length key.values) table inv.clusters a (there_is key i a at) empty in
    least_here (IsUnmatched ops) initial_write key.ops (unmatched_reads ops) i inv.matched a (rising_operations key c.requires.valid) at.at unmatched

pub loop-op-preserved : goal.loop-op-preserved
loop-op-preserved c =
    let key = c.args.key.now in
    let ops = operations key in
    let values = length key.values in
    let i = c.loop-op.op-index in
    let inv = c.loop-op.invariant in
    let table = c.loop-op.table in
    let cluster = c.in-Some.cluster in
    let a = item c.as_slice-op-items.result.now i in
    let at = here _ key i c.requires.valid inv.ops c.loop-op-test.true in
    let full = slot_is key inv.clusters at (Some cluster) c.in-Some.is in
    record {
      ops = inv.ops;
      clusters = seen_more ops values key.ops i a table at.at inv.clusters cluster c.with_operation.result full c.with_operation.ensures;
      matched = none_next (IsUnmatched ops) initial_write key.ops (unmatched_reads ops) i inv.matched a at.at (matched_here ops _ values table inv.clusters a cluster full);
      first_early =
          early_next initial_write key.ops values i table inv.clusters a at.at (there_is key i a at) (rising_operations key c.requires.valid) cluster full c.loop-op.early c.with_early-early.result c.with_early-early.ensures inv.first_early;
    }

pub returns : goal.returns
returns c =
    let key = c.args.key.now in
    let ops = operations key in
    let i = c.loop-op.op-index in
    let inv = c.loop-op.invariant in
    let past = c.loop-op-test.false in
    let n = ap length inv.ops in
    record {
      clusters = seen_all initial_write key.ops (length key.values) c.loop-op.table i refl (omega arith) inv.clusters;
      no_unmatched = none_all (IsUnmatched ops) initial_write key.ops (unmatched_reads ops) i inv.matched (omega arith);
      first_early = early_all initial_write key.ops i c.loop-op.early (omega arith) inv.first_early;
    }
