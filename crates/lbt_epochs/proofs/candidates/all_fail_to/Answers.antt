use Rattle.lbt_epochs.specs.Steps.{clusters_left}
use Rattle.lbt_epochs.proofs.FailAlone.{three_late_reads_fail}
use Rattle.lbt_epochs.proofs.LeftAlone.{late_write_ends}
use Rattle.lbt_epochs.proofs.candidates.all_fail_to.Goals as goal

pub returns-then-writes_late : goal.returns-then-writes_late
returns-then-writes_late c late = late_write_ends c.args.clusters.now c.args.lists.now c.requires c.args.d c.args.f (c.writes_late.ensures late)

pub returns-else-writes_late : goal.returns-else-writes_late
returns-else-writes_late c late = three_late_reads_fail c.args.d c.args.f (clusters_left c.args.clusters.now c.args.lists.now) (c.three_read_late.ensures late)
