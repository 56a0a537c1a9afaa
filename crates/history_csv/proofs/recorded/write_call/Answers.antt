use Rattle.std.proofs.Common.{◌≡◌, ◌++◌, ◌∷◌, [], ℕ, List, ◌∙◌, ap, rules}
use Rattle.std.specs.Fmt.{decimal}
use Rattle.csv.specs.Writing.{default_writer, row_text}
use Rattle.stale_model.specs.Texts.{line_fields, took_text}
use Rattle.history_csv.proofs.RecordedRows.{row_text-call}
use Rattle.history_csv.proofs.recorded.write_call.Goals as goal

pub returns-clause-bytes : goal.returns-clause-bytes
returns-clause-bytes c =
    let e = c.args.entry.now in
    let seq : c.as_bytes.result.now ≡ decimal e.seq = search rules in
    let took : c.tickets_text.result.now ≡ took_text e = c.tickets_text.ensures in
    let line = c.line_fields-line.ensures ∙ ap line_fields c.line_of.ensures in
    let row = ap (λ (fields : List (List ℕ)). row_text default_writer (fields ++ decimal e.seq ∷ took_text e ∷ [])) line ∙ row_text-call e in
    rw (seq, took, row) at c.write_record.ensures.bytes
