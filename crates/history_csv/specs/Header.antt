-- The columns that a header names.
use Rattle.std.specs.Prelude.{ℕ, ◌≤◌, ◌==◌, nat_le, if◌then◌else◌, List, length, count_by, position, Option, Some, None, Result, Ok, codes}
use Rattle.std.specs.Str.{bytes_eq}
use Rattle.history_csv.specs.declared.HistoryFault.{HistoryFault}
use Rattle.history_csv.specs.declared.HistoryFault.TheVariants.{Column}
use Rattle.history_csv.specs.declared.header.Columns.{Columns}
use Rattle.history_csv.specs.Fault.{or_fault}

-- a column's number
abbrev pub IsColumn : ℕ → Type 0
IsColumn number = (1 ≤ number) × (number ≤ 7)

-- the name of a column, by its number
abbrev pub column_name : ℕ → List ℕ
column_name number =
    if number == 1 then codes "client"
    else if number == 2 then codes "op"
    else if number == 3 then codes "key"
    else if number == 4 then codes "value"
    else if number == 5 then codes "start"
    else if number == 6 then codes "finish"
    else codes "slack"

-- how many fields of the header are this name
abbrev pub times_named : List ℕ → List (List ℕ) → ℕ
times_named name header = count_by (bytes_eq name) header

-- the place of the first field that is this name
abbrev pub place_named : List ℕ → List (List ℕ) → Option ℕ
place_named name header = position (bytes_eq name) header

-- the place of a column that stands exactly once
abbrev pub only_place : List ℕ → List (List ℕ) → Option ℕ
only_place name header = if times_named name header == 1 then place_named name header else None

-- the place of a column that need not stand, and does not stand twice
abbrev pub optional_place : List ℕ → List (List ℕ) → Option (Option ℕ)
optional_place name header = if nat_le (times_named name header) 1 then Some (place_named name header) else None

-- the places of the columns, or the first column in this order that does not stand as it must
unfoldable pub columns_of : List (List ℕ) → Result Columns HistoryFault
columns_of header =
    or_fault (Column 1) (only_place (column_name 1) header) (λ client.
    or_fault (Column 2) (only_place (column_name 2) header) (λ op.
    or_fault (Column 3) (only_place (column_name 3) header) (λ key.
    or_fault (Column 4) (only_place (column_name 4) header) (λ value.
    or_fault (Column 5) (only_place (column_name 5) header) (λ start.
    or_fault (Column 6) (only_place (column_name 6) header) (λ finish.
    or_fault (Column 7) (optional_place (column_name 7) header) (λ slack.
    Ok (record { fields = length header; client = client; op = op; key = key; value = value; start = start; finish = finish; slack = slack }))))))))
