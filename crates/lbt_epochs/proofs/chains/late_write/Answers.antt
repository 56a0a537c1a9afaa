use Rattle.lbt_epochs.specs.Lists.{left, cluster_at}
use Rattle.lbt_epochs.proofs.LeftPlaces.{stands_within}
use Rattle.lbt_epochs.proofs.LeftDemands.{first_is_late, first_is_not_late}
use Rattle.lbt_epochs.proofs.chains.late_write.Goals as goal

pub cluster_at-write-requires : goal.cluster_at-write-requires
cluster_at-write-requires c =
    stands_within c.args.clusters.now c.args.lists.now c.requires c.requires.lists_are.writes 0 c.in_ok-late_write.field-0 c.in_ok-late_write.ensures

pub returns-then-f-write : goal.returns-then-f-write
returns-then-f-write c =
    let is = c.cluster_at-write.ensures in
    rw is
    (first_is_late (cluster_at c.args.clusters.now) (λ u. u.w) c.args.f (left c.args.lists.now.placed c.args.lists.now.writes) c.in_ok-late_write.field-0 c.in_ok-late_write.ensures
    (rw is at c.if-f-write.true))

pub returns-else-f-write : goal.returns-else-f-write
returns-else-f-write c =
    let is = c.cluster_at-write.ensures in
    first_is_not_late (cluster_at c.args.clusters.now) (λ u. u.w) c.args.f (left c.args.lists.now.placed c.args.lists.now.writes) c.in_ok-late_write.field-0 c.in_ok-late_write.ensures
    (rw is at c.if-f-write.false)
