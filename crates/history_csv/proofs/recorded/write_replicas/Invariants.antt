use Rattle.std.proofs.Common.{◌≡◌, ◌++◌, take}
use Rattle.stale_model.specs.Texts.{journals_from}
use Rattle.history_csv.specs.Writer.{IsBetweenRecords, bytes_written}
use Rattle.history_csv.proofs.recorded.write_replicas.Given as goal

abbrev pub invariant-loop-replica : goal.invariant-loop-replica
invariant-loop-replica l = record {
  between : IsBetweenRecords l.writer;
  bytes : bytes_written l.writer ≡ bytes_written l.fn.writer ++ journals_from 0 (take l.replica l.journals);
}
