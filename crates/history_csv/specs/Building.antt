-- What serves the code alone: where columns stand, and maps whose keys are texts, seen as lists of texts.
use Rattle.std.specs.Prelude.{ℕ, ◌<◌, IfSome, if◌then◌else◌, List, [], ◌∷◌, ◌++◌, map, Vec, unwrap_or}
use Rattle.std.specs.List.{list_any}
use Rattle.std.specs.Str.{bytes_eq}
use Rattle.stale_model.specs.declared.KeyOps.{KeyOps}
use Rattle.stale_model.specs.declared.Op.{Op}
use Rattle.history_csv.specs.Entries.{Entry}
use Rattle.history_csv.specs.declared.header.Columns.{Columns}
use Rattle.history_csv.specs.Numbering.{Contents, contents_of, named, never, is_filled}

-- each column stands within the fields of a record
pub record StandsWithin (columns : Columns) : Type 0 where
  pub client : columns.client < columns.fields
  pub op : columns.op < columns.fields
  pub key : columns.key < columns.fields
  pub value : columns.value < columns.fields
  pub start : columns.start < columns.fields
  pub finish : columns.finish < columns.fields
  pub slack : IfSome columns.slack (λ place. place < columns.fields)

-- the operation of an entry whose value has this number
abbrev pub op_numbered : ℕ → Entry → Op
op_numbered value entry = record { rec = entry.rec; client = entry.client; kind = entry.kind; value = value; start = entry.start; finish = unwrap_or entry.finish never; slack = entry.slack }

-- the texts of these buffers
abbrev pub texts_of : {A : Type 0} → List (Vec ℕ A) → List (List ℕ)
texts_of buffers = map (λ buffer. buffer.items) buffers

-- the keys of these entries of a map
abbrev pub keys_shown : {A : Type 0} → List (Vec ℕ A × Contents) → List KeyOps
keys_shown entries = map (λ entry. named entry.0.items entry.1) entries

-- the keys with one of this name at their end, which holds nothing yet, unless there is one already
abbrev pub with_key : List KeyOps → List ℕ → List KeyOps
with_key keys name = if list_any (λ key. bytes_eq name key.name) keys then keys else keys ++ named name (contents_of []) ∷ []

-- the texts with this one at their end, unless it is there already
abbrev pub with_text : List (List ℕ) → List ℕ → List (List ℕ)
with_text texts text = if list_any (bytes_eq text) texts then texts else texts ++ text ∷ []

-- the values of a key with one more, which counts only where it is not empty
abbrev pub with_value : List (List ℕ) → List ℕ → List (List ℕ)
with_value values value = if is_filled value then with_text values value else values
