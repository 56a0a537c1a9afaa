-- Which faults the definition of what is read may say.
use Rattle.std.proofs.Common.{◌≡◌, inl, inr, ℕ, ◌+◌, List, [], ◌∷◌, length, Option, Some, None, Result, Ok, Err, IfErr, if◌then◌else◌, arith}
use Rattle.std.proofs.lemmas.Bool.{cases_Bool}
use Rattle.std.specs.Prelude.{◌==◌, nat_lt, ⊤}
use Rattle.history_csv.specs.declared.HistoryFault.{HistoryFault}
use Rattle.history_csv.specs.declared.HistoryFault.TheVariants as fault
use Rattle.history_csv.specs.declared.header.Columns.{Columns}
use Rattle.history_csv.specs.Fault.{or_fault, then_next}
use Rattle.history_csv.specs.Header.{IsColumn, column_name, columns_of, only_place, optional_place}
use Rattle.history_csv.specs.Entries.{Entry, behind, client_of, entries_from, entry_of, field, finish_after, finish_of, key_of, kind_of, most_records, slack_at, tick_of, value_of}
use Rattle.history_csv.specs.Numbering.{history_of}
use Rattle.history_csv.specs.Reading.{history_after, history_of_records, read_of, records_of}

-- a fault that bytes may have: any but want of memory, and a column's number is one of its seven
abbrev pub IsOfBytes : HistoryFault → Type 0
IsOfBytes fault.Memory = ⊥
IsOfBytes (fault.Column name) = IsColumn name
IsOfBytes _ = ⊤

-- an answer with no other fault
abbrev IsDefinite : {Y : Type 0} → Result Y HistoryFault → Type 0
IsDefinite r = IfErr r IsOfBytes

definite-or : {X Y : Type 0} (why : HistoryFault) (o : Option X) (next : X → Result Y HistoryFault) → IsOfBytes why → ((x : X) → IsDefinite (next x)) → IsDefinite (or_fault why o next)
definite-or why None next of_bytes more = of_bytes
definite-or why (Some x) next of_bytes more = more x

definite-next : {X Y : Type 0} (r : Result X HistoryFault) (next : X → Result Y HistoryFault) → IsDefinite r → ((x : X) → IsDefinite (next x)) → IsDefinite (then_next r next)
definite-next (Err why) next first more = first
definite-next (Ok x) next first more = more x

pub columns-definite : (header : List (List ℕ)) → IfErr (columns_of header) IsOfBytes
unfolding columns_of
columns-definite header =
    definite-or (fault.Column 1) (only_place (column_name 1) header) _ (omega arith, omega arith) (λ client.
    definite-or (fault.Column 2) (only_place (column_name 2) header) _ (omega arith, omega arith) (λ op.
    definite-or (fault.Column 3) (only_place (column_name 3) header) _ (omega arith, omega arith) (λ key.
    definite-or (fault.Column 4) (only_place (column_name 4) header) _ (omega arith, omega arith) (λ value.
    definite-or (fault.Column 5) (only_place (column_name 5) header) _ (omega arith, omega arith) (λ start.
    definite-or (fault.Column 6) (only_place (column_name 6) header) _ (omega arith, omega arith) (λ finish.
    definite-or (fault.Column 7) (optional_place (column_name 7) header) _ (omega arith, omega arith) (λ slack. tt)))))))

pub entry-definite : (columns : Columns) (rec : ℕ) (fields : List (List ℕ)) → IfErr (entry_of columns rec fields) IsOfBytes
unfolding entry_of
entry-definite columns rec fields =
    definite-or (fault.Fields rec) (if length fields == columns.fields then Some fields else None) _ tt (λ _.
    definite-or (fault.Op rec) (kind_of (field fields columns.op)) _ tt (λ kind.
    definite-or (fault.Client rec) (client_of (field fields columns.client)) _ tt (λ client.
    definite-or (fault.Key rec) (key_of (field fields columns.key)) _ tt (λ key.
    definite-or (fault.Value rec) (value_of kind (field fields columns.value)) _ tt (λ value.
    definite-or (fault.Time rec) (tick_of (field fields columns.start)) _ tt (λ start.
    definite-or (fault.Time rec) (finish_of (field fields columns.finish)) _ tt (λ tick.
    definite-or (fault.Backwards rec) (finish_after start tick) _ tt (λ finish.
    definite-or (fault.Slack rec) (slack_at columns.slack fields) _ tt (λ slack. tt)))))))))

behind-definite : (front : List Entry) (r : Result (List Entry) HistoryFault) → IsDefinite r → IsDefinite (behind front r)
behind-definite front (Ok entries) definite = tt
behind-definite front (Err why) definite = definite

entries-definite : (columns : Columns) (rec : ℕ) (records : List (List (List ℕ))) → IsDefinite (entries_from columns rec records)
unfolding entries_from
entries-definite columns rec [] = tt
entries-definite columns rec (fields ∷ rest) = elim (cases_Bool (nat_lt most_records rec)) [
  | inl many ↦ rw many tt
  | inr few ↦ rw few (definite-next (entry_of columns rec fields) (λ entry. behind (entry ∷ []) (entries_from columns (rec + 1) rest)) (entry-definite columns rec fields) (λ entry. behind-definite (entry ∷ []) (entries_from columns (rec + 1) rest) (entries-definite columns (rec + 1) rest)))
]

after-definite : (columns : Columns) (records : List (List (List ℕ))) → IsDefinite (history_after columns records)
after-definite columns records = definite-next (entries_from columns 1 records) (λ entries. Ok (history_of entries)) (entries-definite columns 1 records) (λ entries. tt)

records-definite : (records : List (List (List ℕ))) → IsDefinite (history_of_records records)
records-definite [] = tt
records-definite (header ∷ rest) = definite-next (columns_of header) (λ columns. history_after columns rest) (columns-definite header) (λ columns. after-definite columns rest)

-- what is read of bytes is a history or a fault of theirs
read-of-bytes : (bytes : List ℕ) → IfErr (read_of bytes) IsOfBytes
unfolding read_of
read-of-bytes bytes = records-definite (records_of bytes)

-- which is never want of memory
pub read_definite : (bytes : List ℕ) → read_of bytes ≡ Err fault.Memory → ⊥
read_definite bytes memory = rw memory at (read-of-bytes bytes)

-- and a column that is said to be at fault is one of the seven
pub column-numbered : (bytes : List ℕ) (name : ℕ) → read_of bytes ≡ Err (fault.Column name) → IsColumn name
column-numbered bytes name said = rw said at (read-of-bytes bytes)
