use Rattle.lbt_epochs.proofs.LinksMade.{alone_nodes}
use Rattle.lbt_epochs.proofs.links.Links.alone.Goals as goal

pub invariant_of-result : goal.invariant_of-result
invariant_of-result c = rw (c.in_ok-next.ensures, c.in_ok-previous.ensures) (alone_nodes c.args.end c.ranges.end.fits)
