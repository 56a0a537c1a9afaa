-- What serves the code alone: the records that a reader has left, and where want of memory may come.
use Rattle.std.specs.Prelude.{◌≡◌, ◌⊎◌, ◌+◌, ℕ, Bool, true, false, List, [], ◌∷◌, ◌++◌, length, Option, Some, None, Result, IsOk}
use Rattle.std.specs.Borrow.{Bor}
use Rattle.csv.specs.Reading.{Ready, default_config, has_failed, is_flexible, records_from, source_of, reader_config, reader_state, reader_trim}
use Rattle.csv.specs.declared.parser.State.{State}
use Rattle.csv.specs.declared.reader.Reader.{Reader}
use Rattle.csv.specs.declared.reader.Trim.TheVariants as trim
use Rattle.stale_model.specs.declared.History.{History}
use Rattle.history_csv.specs.declared.HistoryFault.{HistoryFault}

-- a reader of bytes in memory
abbrev pub BytesReader : Type 0
BytesReader = Reader (Bor (List ℕ))

-- the bytes that a reader has left
abbrev pub bytes_left : BytesReader → Option (List ℕ)
bytes_left reader = source_of (λ bytes. Some bytes.now) reader

-- the records of these bytes from a state on
abbrev pub records_in : State → Option (List ℕ) → List (List (List ℕ))
records_in state None = []
records_in state (Some bytes) = records_from default_config (length bytes + 1) state bytes

-- the records that a reader has left
abbrev pub records_left : BytesReader → List (List (List ℕ))
records_left reader = records_in (reader_state reader) (bytes_left reader)

-- a reader reads as the format says, and no read has failed yet
pub record IsReading (reader : BytesReader) : Type 0 where
  pub untrimmed : reader_trim reader ≡ trim.None
  pub ready : Ready reader
  pub default : reader_config reader ≡ default_config
  pub flexible : is_flexible reader ≡ true
  pub known : (bytes : List ℕ) × (bytes_left reader ≡ Some bytes)

-- whether a reader gave a record, and which it has left then
abbrev pub Takes : BytesReader → Bool → List (List ℕ) → BytesReader → Type 0
Takes old false fields new = records_left old ≡ []
Takes old true fields new = (records_left old ≡ fields ∷ records_left new) × IsReading new

-- how records are read
abbrev pub Reads : Type 0
Reads = List (List (List ℕ)) → Result History HistoryFault

-- the records that a reader took make a history
pub record TookWell (read : Reads) (old new : BytesReader) : Type 0 where
  pub taken : List (List (List ℕ))
  pub all : records_left old ≡ taken ++ records_left new
  pub well : IsOk (read taken)

-- memory may be wanted: the reader failed, or the records make a history, all or those that it took
abbrev pub WantsMemory : Reads → BytesReader → BytesReader → Type 0
WantsMemory read old new = (has_failed new ≡ true) ⊎ IsOk (read (records_left old)) ⊎ TookWell read old new
