-- What is read is within bounds: the history is valid, and no record is above a million. What is written reads back.
use Rattle.std.specs.Prelude.{◌≡◌, ℕ, ◌≤◌, List, length, map, Ok, All}
use Rattle.stale_model.specs.declared.History.{History}
use Rattle.stale_model.specs.declared.Line.{Line}
use Rattle.stale_model.specs.declared.store.Entry.{Entry as Call}
use Rattle.stale_model.specs.Texts.{line_of, recorded_text}
use Rattle.stale_model.specs.Valid.{IsValidHistory}
use Rattle.history_csv.specs.Entries.{most_records}
use Rattle.history_csv.specs.Numbering.{history_of}
use Rattle.history_csv.specs.Reading.{read_of}
use Rattle.history_csv.specs.Written.{IsReadable, entries_of_lines, history_text}

-- the history is valid, and each operation of each of its keys has a record of at most a million
pub record IsWithinBounds (h : History) : Type 0 where
  pub valid : IsValidHistory h
  pub records : All (λ key. All (λ a. a.rec ≤ 1000000) key.ops) h.keys

-- what bytes read as is within bounds
abbrev pub RecordsAreFew : Type 0
RecordsAreFew = (bytes : List ℕ) (h : History) → read_of bytes ≡ Ok h → IsWithinBounds h

-- the text of at most a million such lines reads as the history of the entries that they stand for
abbrev pub WrittenReadsBack : Type 0
WrittenReadsBack = (lines : List Line) → length lines ≤ most_records → All IsReadable lines → read_of (history_text lines) ≡ Ok (history_of (entries_of_lines 1 lines))

-- the recorded history of at most a million such calls reads as the history of the entries that their lines stand for
abbrev pub RecordedReadsBack : Type 0
RecordedReadsBack = (calls : List Call) → length calls ≤ most_records → All (λ e. IsReadable (line_of e)) calls
    → read_of (recorded_text calls) ≡ Ok (history_of (entries_of_lines 1 (map line_of calls)))
