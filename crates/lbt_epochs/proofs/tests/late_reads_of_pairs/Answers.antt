use Rattle.std.proofs.Common.{refl}
use Rattle.lbt_epochs.proofs.WritesInTurn.{pair_at, few_in_turn}
use Rattle.lbt_epochs.proofs.tests.late_reads_of_pairs.Goals as goal

pub prepare-requires : goal.prepare-requires
prepare-requires c = rw c.deref.ensures.value (record { few = few_in_turn pair_at (λ k. refl) c.in-Ok.clusters.items c.args.count c.in-Ok.ensures c.ranges.count.fits })
