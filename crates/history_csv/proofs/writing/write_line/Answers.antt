use Rattle.std.proofs.Common.{◌∙◌, ap}
use Rattle.csv.specs.Writing.{default_writer, row_text}
use Rattle.history_csv.proofs.WrittenRows.{row_text-line}
use Rattle.history_csv.proofs.writing.write_line.Goals as goal

pub returns-clause-bytes : goal.returns-clause-bytes
returns-clause-bytes c =
    let row = ap (row_text default_writer) c.line_fields-line.ensures ∙ row_text-line c.args.line.now in
    rw row at c.write_record.ensures.bytes
