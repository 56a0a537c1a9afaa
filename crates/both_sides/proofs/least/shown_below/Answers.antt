use Rattle.std.proofs.Common.{arith}
use Rattle.stale_model.specs.Operations.{operations}
use Rattle.stale_model.proofs.ClustersOne.{cluster_writes_differ}
use Rattle.both_sides.proofs.Ticks.{cluster_ticks}
use Rattle.both_sides.proofs.Raising.{raised_conflict}
use Rattle.both_sides.proofs.FreeClusters.{pairs_hold_on_both_sides}
use Rattle.both_sides.proofs.least.shown_below.Goals as goal

pub four_of_raised-requires-clause-ticks : goal.four_of_raised-requires-clause-ticks
four_of_raised-requires-clause-ticks c = cluster_ticks c.args.key.now c.requires.valid c.args.clusters.now c.requires.clusters

pub four_of_raised-requires-clause-differ : goal.four_of_raised-requires-clause-differ
four_of_raised-requires-clause-differ c = cluster_writes_differ (operations c.args.key.now) c.args.clusters.now c.requires.clusters

pub four_of_raised-requires-clause-conflict : goal.four_of_raised-requires-clause-conflict
four_of_raised-requires-clause-conflict c =
    raised_conflict c.args.key.now _ c.args.clusters.now c.requires.valid c.requires.matched c.requires.clusters (c.requires.not_free (omega arith)) (rw c.in-None.is at c.in_ok-rec.ensures)

pub returns-in_ok-four_of_raised-in-None : goal.returns-in_ok-four_of_raised-in-None
returns-in_ok-four_of_raised-in-None c =
    let is = c.in_ok-four_of_raised-in-None.ensures in (
      omega arith,
      record {
        no_early = rw c.in-None.is at c.in_ok-rec.ensures;
        hold = pairs_hold_on_both_sides c.args.key.now c.args.clusters.now _ _ c.requires.valid c.requires.matched c.requires.clusters is;
        printed = is;
      },
    )
