-- What serves the code alone: entries whose texts stand one behind the other.
use Rattle.std.specs.Prelude.{ℕ, ◌+◌, ◌<◌, ◌≤◌, ◌==◌, if◌then◌else◌, List, length, take, drop, Option, Some, None, IfSome}
use Rattle.history_csv.specs.declared.blocks.Row.{Row}
use Rattle.history_csv.specs.Entries.{Entry}
use Rattle.history_csv.specs.Numbering.{never}

-- an entry whose key and value have at most 256 bytes, and whose finish is before `never`
pub record FitsInRow (entry : Entry) : Type 0 where
  pub key : length entry.key ≤ 256
  pub value : length entry.value ≤ 256
  pub finish : IfSome entry.finish (λ tick. tick < never)

-- the finish that a row says by one number
abbrev pub finish_shown : ℕ → Option ℕ
finish_shown tick = if tick == never then None else Some tick

-- the key and the value of a row stand within a text
abbrev pub StandsIn : List ℕ → Row → Type 0
StandsIn text row = row.at + (row.key_len + row.value_len) ≤ length text

-- the entry of a row whose key and value stand in a text
abbrev pub entry_shown : List ℕ → Row → Entry
entry_shown text row = record {
  rec = row.rec;
  client = row.client;
  kind = row.kind;
  key = take row.key_len (drop row.at text);
  value = take row.value_len (drop (row.at + row.key_len) text);
  start = row.start;
  finish = finish_shown row.finish;
  slack = row.slack;
}
