use Rattle.std.proofs.Common.{◌≡◌, ◌++◌}
use Rattle.stale_model.specs.Texts.{journal_header, journal_text, journals_from}
use Rattle.history_csv.specs.Writer.{bytes_written}
use Rattle.history_csv.proofs.RecordedRows.{row_text-journal_header}
use Rattle.history_csv.proofs.WrittenRows.{header_then_rows}
use Rattle.history_csv.proofs.recorded.write_journal.Goals as goal

pub returns : goal.returns
unfolding journal_text
returns c =
    let header = rw row_text-journal_header at c.in_ok-write_record.ensures.bytes in
    let text : bytes_written c.write_replicas.new.writer ≡ journal_header ++ journals_from 0 c.args.journals.now =
    header_then_rows _ _ _ _ _ c.in_ok-writer.ensures.empty header c.in_ok-write_replicas.ensures in
    rw text at c.text_of.ensures
