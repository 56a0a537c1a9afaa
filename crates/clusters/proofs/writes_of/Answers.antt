use Rattle.std.proofs.Common.{◌+◌, length, sym, ◌∙◌, add-one}
use Rattle.stale_model.specs.Operations.{initial_write, operations}
use Rattle.clusters.specs.Tables.{IsLone}
use Rattle.clusters.proofs.Records.{rising_operations, values_of, item, here}
use Rattle.clusters.proofs.Growing.{item_is, duplicate_at, next_read, next_write}
use Rattle.clusters.proofs.writes_of.Goals as goal
use Rattle.clusters.proofs.writes_of.Goals.{in-Read-default, in-Write-None}

pub returns-in-Write-Some : goal.returns-in-Write-Some
returns-in-Write-Some c =
    let key = c.args.key.now in
    let i = c.loop-op.op-index in
    let inv = c.loop-op.invariant in
    let table = c.loop-op.table.items in
    let a = item c.as_slice-op-items.result.now i in
    let at = here _ key i c.requires inv.ops c.loop-op-test.true in
    let full = item_is key inv.writes at _ _ c.index.ensures c.in-Write-Some.is-1 in
    duplicate_at IsLone (operations key) (length key.values) (i + 1) table a c.in-Write-Some.field-0-1 (rising_operations key c.requires) (values_of key c.requires)
    (rw add-one at.at) c.in-Write-Some.is-0 (rw add-one inv.writes) full

pub loop-op-preserved : goal.loop-op-preserved
loop-op-preserved c =
    let key = c.args.key.now in
    let i = c.loop-op.op-index in
    let inv = c.loop-op.invariant in
    let table = c.loop-op.table.items in
    let a = item c.as_slice-op-items.result.now i in
    let at = here _ key i c.requires inv.ops c.loop-op-test.true in
    elim c.match-op.branch [
      | in-Read-default w ↦ record {
        ops = inv.ops;
        writes =
            let same = w.table-is in
            let read = w.in-Read-default.is-0 in
            rw same (next_read key.ops (length key.values) i table initial_write a at.at IsLone (λ write. let e = sym read ∙ write in cc) inv.writes);
      }
      | in-Write-None w ↦ record {
        ops = inv.ops;
        writes =
            let set = w.table-is in
            let lone = w.lone_cluster.ensures in
            let empty = item_is key inv.writes at _ _ c.index.ensures w.in-Write-None.is-1 in
            rw (set, lone) (next_write key.ops (length key.values) i table initial_write a at.at w.in-Write-None.is-0 empty inv.writes);
      }
    ]
