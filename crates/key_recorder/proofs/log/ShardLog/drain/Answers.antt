-- All clients ended where the log says so.
use Rattle.key_recorder.proofs.Taking.{to_true}
use Rattle.key_recorder.proofs.log.ShardLog.drain.Goals as goal

pub returns-then-is_drained-clause-ended : goal.returns-then-is_drained-clause-ended
returns-then-is_drained-clause-ended g c = c.is_drained.ensures.0 (to_true c.is_drained.result c.if-is_drained.true)
