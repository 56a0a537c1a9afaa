-- What is read of the bytes of a history file.
use Rattle.std.specs.Prelude.{ℕ, List, [], ◌∷◌, Result, Ok, Err}
use Rattle.csv.specs.Reading.{records, default_config, strip_bom}
use Rattle.stale_model.specs.declared.History.{History}
use Rattle.history_csv.specs.declared.HistoryFault.{HistoryFault}
use Rattle.history_csv.specs.declared.HistoryFault.TheVariants.{NoHeader}
use Rattle.history_csv.specs.declared.header.Columns.{Columns}
use Rattle.history_csv.specs.Fault.{then_next}
use Rattle.history_csv.specs.Header.{columns_of}
use Rattle.history_csv.specs.Entries.{entries_from}
use Rattle.history_csv.specs.Numbering.{history_of}

-- the records of a file, the header among them, after one byte order mark
abbrev pub records_of : List ℕ → List (List (List ℕ))
records_of bytes = records default_config (strip_bom bytes)

-- the history of the records after the header, or the first fault
abbrev pub history_after : Columns → List (List (List ℕ)) → Result History HistoryFault
history_after columns records = then_next (entries_from columns 1 records) (λ entries. Ok (history_of entries))

-- the history of these records, the first of which is the header, or the first fault
abbrev pub history_of_records : List (List (List ℕ)) → Result History HistoryFault
history_of_records [] = Err NoHeader
history_of_records (header ∷ rest) =
    then_next (columns_of header) (λ columns. history_after columns rest)

-- the history that these bytes are, or the one fault
unfoldable pub read_of : List ℕ → Result History HistoryFault
read_of bytes = history_of_records (records_of bytes)
