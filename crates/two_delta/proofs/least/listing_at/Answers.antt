use Rattle.stale_model.specs.Chains.{IsAnswer}
use Rattle.stale_model.specs.declared.Two.TheVariants.{No}
use Rattle.lbt_epochs.proofs.RefutedListings.{answers_tell_whether_listed}
use Rattle.two_delta.proofs.least.listing_at.Goals as goal

pub unreachable-requires : goal.unreachable-requires
unreachable-requires c =
    let answer : IsAnswer c.args.d c.args.clusters.now (No c.in-No.field-0) = rw c.in-No.is at c.in_ok-listing.ensures in
    (answers_tell_whether_listed c.args.d c.args.clusters.now (No c.in-No.field-0) c.requires.differ answer).1 c.requires.listed
