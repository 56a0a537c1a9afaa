-- The history of the entries of a file: keys and values numbered by first appearance.
use Rattle.std.specs.Prelude.{ℕ, ◌+◌, ◌^◌, ◌&&◌, not, Bool, true, false, List, [], ◌∷◌, length, map, filter, count_by, unwrap_or, is_none}
use Rattle.std.specs.List.{position_or_len}
use Rattle.std.specs.Str.{bytes_eq}
use Rattle.stale_model.specs.declared.Kind.{Kind}
use Rattle.stale_model.specs.declared.Kind.TheVariants.{Read, Write}
use Rattle.stale_model.specs.declared.Op.{Op}
use Rattle.stale_model.specs.declared.KeyOps.{KeyOps}
use Rattle.stale_model.specs.declared.History.{History}
use Rattle.history_csv.specs.Entries.{Entry}

-- the tick at which an operation that never finished counts as finished
abbrev pub never : ℕ
never = 2 ^ 63

-- the distinct names, in order of first appearance
abbrev pub distinct : List (List ℕ) → List (List ℕ)
distinct [] = []
distinct (name ∷ names) = name ∷ filter (λ other. not (bytes_eq name other)) (distinct names)

-- the number of a value: 0 for the empty one, else its place among the values of its key, counted from 1
abbrev pub value_number : List (List ℕ) → List ℕ → ℕ
value_number values [] = 0
value_number values (byte ∷ bytes) = position_or_len (bytes_eq (byte ∷ bytes)) values + 1

-- whether a text is not empty
abbrev pub is_filled : List ℕ → Bool
is_filled [] = false
is_filled (byte ∷ bytes) = true

-- the values of a key with these entries
abbrev pub values_of : List Entry → List (List ℕ)
values_of entries = distinct (filter is_filled (map (λ entry. entry.value) entries))

-- the operation of an entry of a key with these values
abbrev pub op_of : List (List ℕ) → Entry → Op
op_of values entry = record {
  rec = entry.rec;
  client = entry.client;
  kind = entry.kind;
  value = value_number values entry.value;
  start = entry.start;
  finish = unwrap_or entry.finish never;
  slack = entry.slack;
}

-- the operations of a key with these entries
abbrev pub ops_of : List Entry → List Op
ops_of entries = map (op_of (values_of entries)) entries

-- the entries on a key
abbrev pub entries_on : List ℕ → List Entry → List Entry
entries_on name entries = filter (λ entry. bytes_eq name entry.key) entries

-- what a key holds beside its name
pub record Contents : Type 0 where
  pub values : List (List ℕ)
  pub ops : List Op

-- what a key with these entries holds
abbrev pub contents_of : List Entry → Contents
contents_of entries = record { values = values_of entries; ops = ops_of entries }

-- the key of this name that holds these
abbrev pub named : List ℕ → Contents → KeyOps
named name contents = record { name = name; values = contents.values; ops = contents.ops }

-- the key of this name, with what the entries on it give
abbrev pub key_ops : List Entry → List ℕ → KeyOps
key_ops entries name = named name (contents_of (entries_on name entries))

-- the keys of the entries
abbrev pub keys_of : List Entry → List KeyOps
keys_of entries = map (key_ops entries) (distinct (map (λ entry. entry.key) entries))

-- whether an operation is a read
abbrev pub is_read : Kind → Bool
is_read Read = true
is_read Write = false

-- whether an entry is a read that never finished, which leaves no operation
abbrev pub is_skipped : Entry → Bool
is_skipped entry = is_read entry.kind && is_none entry.finish

-- the entries that leave an operation
abbrev pub kept : List Entry → List Entry
kept entries = filter (λ entry. not (is_skipped entry)) entries

-- the history of the entries of a file
unfoldable pub history_of : List Entry → History
history_of entries = record {
  keys = keys_of (kept entries);
  records = length entries;
  skipped = count_by is_skipped entries;
}
