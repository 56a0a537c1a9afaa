use Rattle.clusters.proofs.Existence.{clusters_are_few}
use Rattle.stale_model.specs.Operations.{operations}
use Rattle.stale_model.proofs.ClustersOne.{cluster_writes_differ}
use Rattle.lbt_epochs.proofs.ListedEpochs.{listings_are_answered}
use Rattle.audit_workers.proofs.Listed.{answer_lists_writes}
use Rattle.audit_workers.proofs.two_part.Goals as goal

pub two_atomic-requires : goal.two_atomic-requires
two_atomic-requires c = record {
  differ = cluster_writes_differ (operations c.args.key.now) c.args.clusters.now c.requires.clusters;
  few = clusters_are_few c.args.key.now c.args.clusters.now c.requires.valid c.requires.clusters;
}

pub op_order-requires-clause-writes : goal.op_order-requires-clause-writes
op_order-requires-clause-writes c =
    let ops = operations c.args.key.now in
    let clusters = c.args.clusters.now in
    let differ = cluster_writes_differ ops clusters c.requires.clusters in
    let answer = rw c.in-Yes.is at c.in_ok-writes.ensures in
    rw c.as_slice.ensures (answer_lists_writes ops clusters c.in-Yes.writes c.requires.clusters (listings_are_answered 0 clusters c.in-Yes.writes differ answer))
