-- The text of a history that is written, and the entries that it stands for.
use Rattle.std.specs.Prelude.{◌≡◌, ℕ, ◌+◌, ◌^◌, ◌<◌, ◌≤◌, List, [], ◌∷◌, ◌++◌, Some, codes}
use Rattle.std.specs.List.{flat_map}
use Rattle.stale_model.specs.declared.Kind.TheVariants.{Write}
use Rattle.stale_model.specs.declared.Line.{Line}
use Rattle.stale_model.specs.Texts.{record_text, key_text, value_text, line_fields}
use Rattle.history_csv.specs.Entries.{Entry, greatest_tick}

-- a line: its fields, with commas between them, and a line feed
abbrev pub line_text : Line → List ℕ
line_text line = record_text (line_fields line)

-- the header
abbrev pub header_text : List ℕ
header_text = codes "client,op,key,value,start,finish\n"

-- the header and the lines
unfoldable pub history_text : List Line → List ℕ
history_text lines = header_text ++ flat_map line_text lines

-- the entry that a line stands for, as record number rec
abbrev pub entry_of_line : ℕ → Line → Entry
entry_of_line rec line = record {
  rec = rec;
  client = line.client;
  kind = line.kind;
  key = key_text line.key;
  value = value_text line.value;
  start = line.start;
  finish = Some line.finish;
  slack = 0;
}

-- the entries that lines stand for, numbered from rec on
abbrev pub entries_of_lines : ℕ → List Line → List Entry
entries_of_lines rec [] = []
entries_of_lines rec (line ∷ lines) = entry_of_line rec line ∷ entries_of_lines (rec + 1) lines

-- a line that reads back: its numbers are of 32 bits, its ticks in order, and a write has a value
pub record IsReadable (line : Line) : Type 0 where
  pub client : line.client < 2 ^ 32
  pub key : line.key < 2 ^ 32
  pub value : line.value < 2 ^ 32
  pub filled : line.kind ≡ Write → 1 ≤ line.value
  pub starts : 1 ≤ line.start
  pub in_order : line.start ≤ line.finish
  pub finishes : line.finish ≤ greatest_tick
