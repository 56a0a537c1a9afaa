use Rattle.std.proofs.Common.{◌≡◌, ◌++◌, take}
use Rattle.std.specs.List.{flat_map}
use Rattle.stale_model.specs.Texts.{call_fields, record_text}
use Rattle.history_csv.specs.Writer.{IsBetweenRecords, bytes_written}
use Rattle.history_csv.proofs.recorded.write_calls.Given as goal

abbrev pub invariant-loop-entry : goal.invariant-loop-entry
invariant-loop-entry l = record {
  between : IsBetweenRecords l.writer;
  bytes : bytes_written l.writer ≡ bytes_written l.fn.writer ++ flat_map (λ e. record_text (call_fields e)) (take l.entry-index l.entries);
}
