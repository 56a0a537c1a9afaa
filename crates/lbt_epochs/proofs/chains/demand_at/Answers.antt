use Rattle.std.proofs.Common.{sym, ◌∙◌}
use Rattle.lbt_epochs.proofs.LeftPlaces.{stands_within}
use Rattle.lbt_epochs.proofs.LeftDemands.{hard_asked, nothing_asked, one_asked, soft_asked}
use Rattle.lbt_epochs.proofs.chains.demand_at.Goals as goal

pub late_read-first-requires : goal.late_read-first-requires
late_read-first-requires c at e =
    stands_within c.args.clusters.now c.args.lists.now c.requires.ready c.requires.ready.lists_are.reads 0 at (sym e ∙ c.late_reads-first.ensures.first)

pub late_read-second-requires : goal.late_read-second-requires
late_read-second-requires c at e =
    stands_within c.args.clusters.now c.args.lists.now c.requires.ready c.requires.ready.lists_are.reads 1 at (sym e ∙ c.late_reads-first.ensures.second)

pub returns-in-Some : goal.returns-in-Some
returns-in-Some c =
    let e = c.cluster_at-cluster.ensures in
    rw e (hard_asked c.args.d c.args.clusters.now c.args.lists.now c.requires.ready c.args.at c.in-Some.write (rw e at (sym c.in-Some.is ∙ c.late_write.ensures)))

pub returns-in-None-default : goal.returns-in-None-default
returns-in-None-default c =
    let e = c.cluster_at-cluster.ensures in
    nothing_asked c.args.d c.args.clusters.now c.args.lists.now c.requires.ready c.args.at
    (rw e at (sym c.in_default.is ∙ c.late_write.ensures))
    (rw (e, c.late_reads-first.ensures.first) at (sym c.in-None-default.is-0 ∙ c.late_read-first.ensures.late))

pub returns-in-Some-None : goal.returns-in-Some-None
returns-in-Some-None c =
    let e = c.cluster_at-cluster.ensures in
    one_asked c.args.d c.args.clusters.now c.args.lists.now c.requires.ready c.args.at c.in-Some-None.one
    (rw e at (sym c.in_default.is ∙ c.late_write.ensures))
    (rw (e, c.late_reads-first.ensures.first) at (sym c.in-Some-None.is-0 ∙ c.late_read-first.ensures.late))
    (rw (e, c.late_reads-first.ensures.second) at (sym c.in-Some-None.is-1 ∙ c.late_read-second.ensures.late))

pub returns-in-Some-Some : goal.returns-in-Some-Some
returns-in-Some-Some c =
    let e = c.cluster_at-cluster.ensures in
    rw (e, c.cluster_at-q.ensures, c.cluster_at-q2.ensures)
    (soft_asked c.args.d c.args.clusters.now c.args.lists.now c.requires.ready c.args.at c.in-Some-Some.one c.in-Some-Some.other
    (rw e at (sym c.in_default.is ∙ c.late_write.ensures))
    (rw (e, c.late_reads-first.ensures.first) at (sym c.in-Some-Some.is-0 ∙ c.late_read-first.ensures.late))
    (rw (e, c.late_reads-first.ensures.second) at (sym c.in-Some-Some.is-1 ∙ c.late_read-second.ensures.late)))
