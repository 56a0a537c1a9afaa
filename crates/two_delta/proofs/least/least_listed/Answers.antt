use Rattle.two_delta.proofs.LeastListed.{clusters_differ, clusters_are_few, starts_by_finish, bounds_where_apart}
use Rattle.two_delta.proofs.least.least_listed.Goals as goal

pub prepare-requires : goal.prepare-requires
prepare-requires c = record { few = clusters_are_few c.args.clusters.now c.requires }

pub has_listing_at-requires-clause-differ : goal.has_listing_at-requires-clause-differ
has_listing_at-requires-clause-differ c = clusters_differ c.args.clusters.now c.requires

pub has_listing_at-requires-clause-few : goal.has_listing_at-requires-clause-few
has_listing_at-requires-clause-few c = clusters_are_few c.args.clusters.now c.requires

pub least_delta-requires-clause-differ : goal.least_delta-requires-clause-differ
least_delta-requires-clause-differ c = clusters_differ c.args.clusters.now c.requires

pub least_delta-requires-clause-starts : goal.least_delta-requires-clause-starts
least_delta-requires-clause-starts c = starts_by_finish c.args.clusters.now c.requires

pub least_between-requires-clause-differ : goal.least_between-requires-clause-differ
least_between-requires-clause-differ c = clusters_differ c.args.clusters.now c.requires

pub least_between-requires-clause-few : goal.least_between-requires-clause-few
least_between-requires-clause-few c = clusters_are_few c.args.clusters.now c.requires

pub least_between-requires-clause-bounds : goal.least_between-requires-clause-bounds
least_between-requires-clause-bounds c =
    bounds_where_apart c.args.clusters.now c.requires c.in_ok-apart.apart.delta c.has_listing_at.result c.has_listing_at.ensures.tells c.if-has_listing_at.false c.in_ok-apart.ensures.delta.apart
