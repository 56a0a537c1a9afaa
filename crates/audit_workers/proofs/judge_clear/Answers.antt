use Rattle.stale_model.specs.Operations.{operations}
use Rattle.stale_model.proofs.ClustersOne.{cluster_writes_differ}
use Rattle.delta_score.proofs.Starts.{starts_by_finish}
use Rattle.audit_workers.proofs.Clear.{writes_listed, judged}
use Rattle.audit_workers.proofs.judge_clear.Goals as goal

pub least_delta-requires-clause-differ : goal.least_delta-requires-clause-differ
least_delta-requires-clause-differ c = cluster_writes_differ (operations c.args.key.now) c.args.clusters.now c.requires.clusters

pub least_delta-requires-clause-starts : goal.least_delta-requires-clause-starts
least_delta-requires-clause-starts c = starts_by_finish c.args.key.now c.args.clusters.now c.requires.valid c.requires.clear c.requires.clusters

pub op_order-requires-clause-writes : goal.op_order-requires-clause-writes
op_order-requires-clause-writes c =
    let least = c.in_ok-least.least in
    rw c.as_slice.ensures (writes_listed (operations c.args.key.now) c.args.clusters.now c.requires.clusters least.delta least.order c.in_ok-least.ensures.order)

pub returns : goal.returns
returns c =
    let least = c.in_ok-least.least in
    let order = rw c.as_slice.ensures at c.in_ok-order.ensures.in_order in
    judged (operations c.args.key.now) c.args.clusters.now c.requires.clusters c.requires.clear least c.in_ok-order.order c.in_ok-two.two c.in_ok-least.ensures order c.in_ok-two.ensures
