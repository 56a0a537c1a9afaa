use Rattle.std.proofs.Common.{◌≡◌, ◌+◌, length, sum_by, inl, inr, sym, ap, ◌∙◌, arith}
use Rattle.history_csv.specs.Reading.{records_of}
use Rattle.history_csv.proofs.ValidFacts.{history-shows, history-valid}
use Rattle.history_csv.proofs.HistoryFacts.{history-records}
use Rattle.stale_model.specs.Valid.{IsValidHistory}
use Rattle.history_csv.proofs.Counts.{skipped-and-kept}
use Rattle.history_csv.proofs.Definite.{column-numbered}
use Rattle.history_csv.proofs.ReadSteps.{read-file}
use Rattle.history_csv.proofs.read_history.Goals as goal

pub returns-clause-read : goal.returns-clause-read
returns-clause-read c = elim c.read_records.ensures.read [
  | inl memory ↦ inl memory
  | inr read ↦ inr (read ∙ read-file c.args.bytes.now _ c.reader_of-reader.ensures.records)
]

pub returns-clause-column : goal.returns-clause-column
returns-clause-column c = λ name said. elim c.read_records.ensures.read [
  | inl memory ↦ cc
  | inr read ↦ column-numbered c.args.bytes.now name (sym (read ∙ read-file c.args.bytes.now _ c.reader_of-reader.ensures.records) ∙ said)
]

pub returns-clause-valid : goal.returns-clause-valid
returns-clause-valid c = history-shows _ IsValidHistory (λ header rest es are said. history-valid rest es said) c.read_records.result c.read_records.ensures.read

pub returns-clause-records : goal.returns-clause-records
returns-clause-records c =
    history-shows _ (λ h. h.records + 1 ≡ length (records_of c.args.bytes.now)) (λ header rest es are said.
    let all = ap length (sym c.reader_of-reader.ensures.records ∙ are) in
    let as_many = said.as_many in
    let records = history-records es in
    omega arith) c.read_records.result c.read_records.ensures.read

pub returns-clause-skipped : goal.returns-clause-skipped
returns-clause-skipped c = history-shows _ (λ h. h.skipped + sum_by (λ key. length key.ops) h.keys ≡ h.records) (λ header rest es are said. skipped-and-kept es) c.read_records.result c.read_records.ensures.read
