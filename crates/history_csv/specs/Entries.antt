-- What one record of a history says, and the checks that it must pass.
use Rattle.std.specs.Prelude.{ℕ, ◌+◌, ◌-◌, ◌*◌, ◌^◌, ◌==◌, ◌&&◌, ◌||◌, nat_le, nat_lt, Bool, if◌then◌else◌, List, [], ◌∷◌, ◌++◌, length, fold, slice_index_or, Option, Some, None, option_map, Result, Ok, Err, codes}
use Rattle.std.specs.List.{list_all}
use Rattle.std.specs.Str.{bytes_eq}
use Rattle.stale_model.specs.declared.Kind.{Kind}
use Rattle.stale_model.specs.declared.Kind.TheVariants.{Read, Write}
use Rattle.history_csv.specs.declared.HistoryFault.{HistoryFault}
use Rattle.history_csv.specs.declared.HistoryFault.TheVariants as fault
use Rattle.history_csv.specs.declared.header.Columns.{Columns}
use Rattle.history_csv.specs.Fault.{or_fault, then_next}

-- what a record says: its number, and its fields by column
pub record Entry : Type 0 where
  pub rec : ℕ
  pub client : ℕ
  pub kind : Kind
  pub key : List ℕ
  pub value : List ℕ
  pub start : ℕ
  pub finish : Option ℕ
  pub slack : ℕ

-- the greatest tick, and the greatest slack
abbrev pub greatest_tick : ℕ
greatest_tick = 2 ^ 62 - 1

-- the greatest number of records
abbrev pub most_records : ℕ
most_records = 1000000

-- the field at a place
abbrev pub field : List (List ℕ) → ℕ → List ℕ
field fields place = slice_index_or fields place []

-- whether a text has from least to most bytes
abbrev pub has_length : ℕ → ℕ → List ℕ → Bool
has_length least most text = nat_le least (length text) && nat_le (length text) most

-- a text of from least to most bytes
abbrev pub text_of : ℕ → ℕ → List ℕ → Option (List ℕ)
text_of least most text = if has_length least most text then Some text else None

-- whether a byte is one of 0 to 9
abbrev pub is_digit : ℕ → Bool
is_digit byte = nat_le 48 byte && nat_le byte 57

-- the number that digits say
abbrev pub number_from_digits : List ℕ → ℕ
number_from_digits digits = fold (λ number digit. 10 * number + (digit - 48)) 0 digits

-- the number of a text of 1 to this many digits
abbrev pub number_of : ℕ → List ℕ → Option ℕ
number_of most text = if has_length 1 most text && list_all is_digit text then Some (number_from_digits text) else None

-- a number of from least to most
abbrev pub number_within : ℕ → ℕ → Option ℕ → Option ℕ
number_within least most None = None
number_within least most (Some number) = if nat_le least number && nat_le number most then Some number else None

-- what one of the four words of `op` says
abbrev pub kind_of : List ℕ → Option Kind
kind_of text =
    if bytes_eq text (codes "r") || bytes_eq text (codes "read") then Some Read
    else if bytes_eq text (codes "w") || bytes_eq text (codes "write") then Some Write
    else None

-- a client: 1 to 10 digits, a number of 32 bits
abbrev pub client_of : List ℕ → Option ℕ
client_of text = number_within 0 4294967295 (number_of 10 text)

-- a key: 1 to 256 bytes
abbrev pub key_of : List ℕ → Option (List ℕ)
key_of text = text_of 1 256 text

-- a value: at most 256 bytes, of which a write has at least 1
abbrev pub value_of : Kind → List ℕ → Option (List ℕ)
value_of Read text = text_of 0 256 text
value_of Write text = text_of 1 256 text

-- a tick: 1 to 19 digits, a number from 1 to the greatest tick
abbrev pub tick_of : List ℕ → Option ℕ
tick_of text = number_within 1 greatest_tick (number_of 19 text)

-- a finish: a tick, or empty where the operation never finished
abbrev pub finish_of : List ℕ → Option (Option ℕ)
finish_of [] = Some None
finish_of (byte ∷ bytes) = option_map Some (tick_of (byte ∷ bytes))

-- a finish that is not before the start
abbrev pub finish_after : ℕ → Option ℕ → Option (Option ℕ)
finish_after start None = Some None
finish_after start (Some finish) = if nat_le start finish then Some (Some finish) else None

-- a slack: 1 to 19 digits, a number of at most the greatest tick, or empty for none
abbrev pub slack_of : List ℕ → Option ℕ
slack_of [] = Some 0
slack_of (byte ∷ bytes) = number_within 0 greatest_tick (number_of 19 (byte ∷ bytes))

-- the slack of a record, which is none where there is no such column
abbrev pub slack_at : Option ℕ → List (List ℕ) → Option ℕ
slack_at None fields = Some 0
slack_at (Some place) fields = slack_of (field fields place)

-- what record number rec says, or its first fault in this order
unfoldable pub entry_of : Columns → ℕ → List (List ℕ) → Result Entry HistoryFault
entry_of columns rec fields =
    or_fault (fault.Fields rec) (if length fields == columns.fields then Some fields else None) (λ _.
    or_fault (fault.Op rec) (kind_of (field fields columns.op)) (λ kind.
    or_fault (fault.Client rec) (client_of (field fields columns.client)) (λ client.
    or_fault (fault.Key rec) (key_of (field fields columns.key)) (λ key.
    or_fault (fault.Value rec) (value_of kind (field fields columns.value)) (λ value.
    or_fault (fault.Time rec) (tick_of (field fields columns.start)) (λ start.
    or_fault (fault.Time rec) (finish_of (field fields columns.finish)) (λ tick.
    or_fault (fault.Backwards rec) (finish_after start tick) (λ finish.
    or_fault (fault.Slack rec) (slack_at columns.slack fields) (λ slack.
    Ok (record { rec = rec; client = client; kind = kind; key = key; value = value; start = start; finish = finish; slack = slack }))))))))))

-- these entries before the others, unless there is a fault
abbrev pub behind : List Entry → Result (List Entry) HistoryFault → Result (List Entry) HistoryFault
behind front (Ok entries) = Ok (front ++ entries)
behind front (Err fault) = Err fault

-- the entries of the records from number rec on, or the fault of the first at fault
unfoldable pub entries_from : Columns → ℕ → List (List (List ℕ)) → Result (List Entry) HistoryFault
entries_from columns rec [] = Ok []
entries_from columns rec (fields ∷ rest) =
    if nat_lt most_records rec then Err fault.Records
    else then_next (entry_of columns rec fields) (λ entry. behind (entry ∷ []) (entries_from columns (rec + 1) rest))
