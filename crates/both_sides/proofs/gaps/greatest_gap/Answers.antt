use Rattle.both_sides.proofs.Spans.{gap_is, gap_small}
use Rattle.both_sides.proofs.gaps.greatest_gap.Goals as goal

pub returns-clause-gap : goal.returns-clause-gap
returns-clause-gap c =
    gap_is c.args.clusters.now c.in-Ok.spans.items _ c.requires.differ c.requires.ticks c.in-Ok.ensures (rw c.deref.ensures.value at c.greatest_of.ensures)

pub returns-clause-small : goal.returns-clause-small
returns-clause-small c =
    gap_small c.args.clusters.now c.in-Ok.spans.items _ c.requires.differ c.requires.ticks c.in-Ok.ensures (rw c.deref.ensures.value at c.greatest_of.ensures)
