use Rattle.two_delta.proofs.LeastListed.{clusters_differ, clusters_are_few}
use Rattle.two_delta.proofs.least.least_two.Goals as goal

pub listing_at-requires-clause-differ : goal.listing_at-requires-clause-differ
listing_at-requires-clause-differ c = clusters_differ c.args.clusters.now c.requires

pub listing_at-requires-clause-few : goal.listing_at-requires-clause-few
listing_at-requires-clause-few c = clusters_are_few c.args.clusters.now c.requires

pub refutation_at-requires-clause-differ : goal.refutation_at-requires-clause-differ
refutation_at-requires-clause-differ c = clusters_differ c.args.clusters.now c.requires

pub refutation_at-requires-clause-few : goal.refutation_at-requires-clause-few
refutation_at-requires-clause-few c = clusters_are_few c.args.clusters.now c.requires
