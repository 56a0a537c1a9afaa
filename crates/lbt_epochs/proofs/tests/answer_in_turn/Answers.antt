use Rattle.std.proofs.Common.{refl}
use Rattle.lbt_epochs.proofs.WritesInTurn.{write_at, few_in_turn, differ_in_turn}
use Rattle.lbt_epochs.proofs.tests.answer_in_turn.Goals as goal

pub two_atomic-requires-clause-differ : goal.two_atomic-requires-clause-differ
two_atomic-requires-clause-differ c = rw c.deref.ensures.value (differ_in_turn write_at (λ k. refl) c.in-Ok.clusters.items c.args.count c.in-Ok.ensures)

pub two_atomic-requires-clause-few : goal.two_atomic-requires-clause-few
two_atomic-requires-clause-few c = rw c.deref.ensures.value (few_in_turn write_at (λ k. refl) c.in-Ok.clusters.items c.args.count c.in-Ok.ensures c.ranges.count.fits)
