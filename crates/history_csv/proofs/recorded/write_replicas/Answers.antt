use Rattle.history_csv.proofs.JournalFacts.{journals_from-more}
use Rattle.history_csv.proofs.recorded.write_replicas.Goals as goal

pub loop-replica-preserved : goal.loop-replica-preserved
loop-replica-preserved c = record {
  between = c.in_ok-write_replica.ensures.between;
  bytes = journals_from-more c.args.journals.now c.loop-replica.replica c.index-journals-replica.result _ _ _ c.loop-replica-test.true c.index-journals-replica.is c.loop-replica.invariant.bytes (rw c.as_slice.ensures at c.in_ok-write_replica.ensures.bytes);
}
