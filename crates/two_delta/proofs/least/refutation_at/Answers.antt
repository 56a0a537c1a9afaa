use Rattle.stale_model.specs.Chains.{IsAnswer}
use Rattle.stale_model.specs.declared.Two.TheVariants.{Yes}
use Rattle.lbt_epochs.proofs.RefutedListings.{answers_tell_whether_listed}
use Rattle.two_delta.proofs.least.refutation_at.Goals as goal

pub unreachable-requires : goal.unreachable-requires
unreachable-requires c =
    let answer : IsAnswer c.args.d c.args.clusters.now (Yes c.in-Yes.field-0) = rw c.in-Yes.is at c.in_ok-two_atomic_at.ensures in
    c.requires.unlisted ((answers_tell_whether_listed c.args.d c.args.clusters.now (Yes c.in-Yes.field-0) c.requires.differ answer).0 tt)
