-- The pass stays one of its recorder.
use Rattle.key_recorder.proofs.Recorded.{still_of}
use Rattle.key_recorder.proofs.tests.entries_come_to_the_log_of_their_shard_alone.Goals as goal

pub record-requires-2-clause-own : goal.record-requires-2-clause-own
record-requires-2-clause-own g c = still_of c.entry.result c.in-Ok.pass c.record.new.pass c.record.ensures c.in-Ok.recorder c.in-Ok.ensures.own

pub close-requires-clause-own : goal.close-requires-clause-own
close-requires-clause-own g c =
    still_of c.entry-3.result c.record.new.pass c.record-2.new.pass c.record-2.ensures c.in-Ok.recorder
    (still_of c.entry.result c.in-Ok.pass c.record.new.pass c.record.ensures c.in-Ok.recorder c.in-Ok.ensures.own)
