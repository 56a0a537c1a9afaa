use Rattle.std.proofs.Common.{length}
use Rattle.lbt_epochs.specs.Steps.{clusters_left}
use Rattle.lbt_epochs.proofs.EpochsSoFar.{AreEpochsSoFar}
use Rattle.lbt_epochs.proofs.epochs.place_all.Given as goal

abbrev pub invariant-loop-lists : goal.invariant-loop-lists
invariant-loop-lists l = AreEpochsSoFar l.d l.clusters l.fn.lists l.lists

abbrev pub decreases-loop-lists : goal.decreases-loop-lists
decreases-loop-lists l = length (clusters_left l.clusters l.lists)
