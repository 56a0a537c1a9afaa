use Rattle.stale_model.specs.Operations.{operations}
use Rattle.stale_model.proofs.ClustersOne.{cluster_writes_differ}
use Rattle.both_sides.proofs.Ticks.{cluster_ticks}
use Rattle.both_sides.proofs.Raising.{half_up, below_half}
use Rattle.both_sides.proofs.FreeClusters.{half_gaps_are_least, printed_side_orders_are_side_orders}
use Rattle.both_sides.proofs.least.least_sides.Goals as goal

pub greatest_gap-requires-clause-differ : goal.greatest_gap-requires-clause-differ
greatest_gap-requires-clause-differ c = cluster_writes_differ (operations c.args.key.now) c.args.clusters.now c.requires.clusters

pub greatest_gap-requires-clause-ticks : goal.greatest_gap-requires-clause-ticks
greatest_gap-requires-clause-ticks c = cluster_ticks c.args.key.now c.requires.valid c.args.clusters.now c.requires.clusters

pub side_order-requires-clause-free : goal.side_order-requires-clause-free
side_order-requires-clause-free c = c.in_ok-greatest_gap.ensures.gap.free _ (half_up _ _ c.div_ceil-g.ensures).enough

pub shown_below-requires-clause-not_free : goal.shown_below-requires-clause-not_free
shown_below-requires-clause-not_free c = λ above free.
    c.in_ok-greatest_gap.ensures.gap.least _ (below_half _ _ (half_up _ _ c.div_ceil-g.ensures) above) free

pub returns : goal.returns
returns c =
    let key = c.args.key.now in
    let clusters = c.args.clusters.now in
    let gap = c.in_ok-greatest_gap.ensures.gap in
    let half = half_up _ _ c.div_ceil-g.ensures in
    record {
      least = half_gaps_are_least key clusters _ _ c.requires.valid c.requires.matched c.requires.clusters gap half;
      order = printed_side_orders_are_side_orders key clusters _ _ _ c.requires.valid c.requires.matched c.requires.clusters gap half.enough c.in_ok-side_order.ensures;
      printed = c.in_ok-side_order.ensures;
      shown = c.in_ok-shown_below.ensures;
    }
