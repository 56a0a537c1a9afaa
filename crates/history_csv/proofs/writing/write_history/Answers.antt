use Rattle.std.proofs.Common.{◌≡◌, ◌++◌}
use Rattle.std.specs.List.{flat_map}
use Rattle.history_csv.specs.Written.{header_text, history_text, line_text}
use Rattle.history_csv.specs.Writer.{bytes_written}
use Rattle.history_csv.proofs.WrittenRows.{header_then_rows, row_text-header}
use Rattle.history_csv.proofs.writing.write_history.Goals as goal

pub returns : goal.returns
unfolding history_text
returns c =
    let header = rw row_text-header at c.in_ok-write_record.ensures.bytes in
    let text : bytes_written c.write_lines.new.writer ≡ header_text ++ flat_map line_text c.args.lines.now =
    header_then_rows _ _ _ _ _ c.in_ok-writer.ensures.empty header c.in_ok-write_lines.ensures in
    rw text at c.text_of.ensures
