use Rattle.std.proofs.Common.{◌≡◌, ◌++◌}
use Rattle.std.specs.List.{flat_map}
use Rattle.stale_model.specs.Texts.{call_fields, record_text, recorded_header, recorded_text}
use Rattle.history_csv.specs.Writer.{bytes_written}
use Rattle.history_csv.proofs.RecordedRows.{row_text-recorded_header}
use Rattle.history_csv.proofs.WrittenRows.{header_then_rows}
use Rattle.history_csv.proofs.recorded.write_recorded.Goals as goal

pub returns : goal.returns
unfolding recorded_text
returns c =
    let header = rw row_text-recorded_header at c.in_ok-write_record.ensures.bytes in
    let text : bytes_written c.write_calls.new.writer ≡ recorded_header ++ flat_map (λ e. record_text (call_fields e)) c.args.entries.now =
    header_then_rows _ _ _ _ _ c.in_ok-writer.ensures.empty header c.in_ok-write_calls.ensures in
    rw text at c.text_of.ensures
