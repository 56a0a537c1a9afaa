use Rattle.std.proofs.Common.{◌≡◌, ◌++◌, take}
use Rattle.std.specs.List.{flat_map}
use Rattle.stale_model.specs.Texts.{journal_fields, record_text}
use Rattle.history_csv.specs.Writer.{IsBetweenRecords, bytes_written}
use Rattle.history_csv.proofs.recorded.write_replica.Given as goal

abbrev pub invariant-loop-served : goal.invariant-loop-served
invariant-loop-served l = record {
  between : IsBetweenRecords l.writer;
  bytes : bytes_written l.writer ≡ bytes_written l.fn.writer ++ flat_map (λ j. record_text (journal_fields l.replica j)) (take l.served-index l.journal);
}
