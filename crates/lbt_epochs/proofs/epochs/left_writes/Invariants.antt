use Rattle.lbt_epochs.specs.Lists.{left}
use Rattle.lbt_epochs.proofs.WritesOfPlaces.{AreWrittenSoFar}
use Rattle.lbt_epochs.proofs.epochs.left_writes.Given as goal

abbrev pub invariant-loop : goal.invariant-loop
invariant-loop l = AreWrittenSoFar l.clusters (left l.lists.placed l.lists.candidates) l.counter l.next l.writes.items
