use Rattle.std.proofs.Common.{arith}
use Rattle.std.proofs.lemmas.Result.{IfOk-weaker}
use Rattle.stale_model.specs.Operations.{operations}
use Rattle.stale_model.proofs.ClustersOne.{cluster_writes_differ}
use Rattle.both_sides.proofs.Ticks.{cluster_ticks}
use Rattle.both_sides.proofs.Raising.{raised_differ, raised_list_writes, printed_order}
use Rattle.both_sides.proofs.least.side_order.Goals as goal

pub raised_clusters-requires-clause-ticks : goal.raised_clusters-requires-clause-ticks
raised_clusters-requires-clause-ticks c = cluster_ticks c.args.key.now c.requires.valid c.args.clusters.now c.requires.clusters

pub order_at-requires-clause-differ : goal.order_at-requires-clause-differ
order_at-requires-clause-differ c =
    rw (c.deref.ensures.value, c.in-Ok.ensures) (raised_differ _ _ (cluster_writes_differ (operations c.args.key.now) c.args.clusters.now c.requires.clusters))

pub op_order-requires-clause-writes : goal.op_order-requires-clause-writes
op_order-requires-clause-writes c =
    let is = rw (c.deref.ensures.value, c.in-Ok.ensures) at c.in_ok-writes.ensures in
    rw (c.as_slice.ensures, is.writes) (raised_list_writes (operations c.args.key.now) _ c.args.clusters.now is.zones c.requires.clusters is.zone_order.each_once)

pub returns : goal.returns
returns c =
    let ops = operations c.args.key.now in
    let is = rw (c.deref.ensures.value, c.in-Ok.ensures) at c.in_ok-writes.ensures in
    IfOk-weaker c.op_order.result _ _
    (λ order in_order. printed_order ops c.args.clusters.now c.args.g _ _ order (omega arith) is (rw c.as_slice.ensures at in_order)) c.op_order.ensures.in_order
