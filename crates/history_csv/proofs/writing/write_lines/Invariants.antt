use Rattle.std.proofs.Common.{◌≡◌, ◌++◌, take}
use Rattle.std.specs.List.{flat_map}
use Rattle.history_csv.specs.Written.{line_text}
use Rattle.history_csv.specs.Writer.{IsBetweenRecords, bytes_written}
use Rattle.history_csv.proofs.writing.write_lines.Given as goal

abbrev pub invariant-loop-line : goal.invariant-loop-line
invariant-loop-line l = record {
  between : IsBetweenRecords l.writer;
  bytes : bytes_written l.writer ≡ bytes_written l.fn.writer ++ flat_map line_text (take l.line-index l.lines);
}
