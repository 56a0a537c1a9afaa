-- The lines of a generated history read back, and their text is not long.
use Rattle.std.specs.Prelude.{◌≡◌, ℕ, ◌<◌, ◌≤◌, List, length, Ok, All}
use Rattle.stale_model.specs.declared.Line.{Line}
use Rattle.history_csv.specs.Numbering.{history_of}
use Rattle.history_csv.specs.Reading.{read_of}
use Rattle.history_csv.specs.Written.{IsReadable, entries_of_lines, history_text}
use Rattle.history_gen.specs.Generated.{lines_of}

-- so many readable lines, whose text is shorter than 40,000,000 bytes and reads as the history of their entries
pub record ReadBack (ops : ℕ) (lines : List Line) : Type 0 where
  pub count : length lines ≡ ops
  pub readable : All IsReadable lines
  pub reading : read_of (history_text lines) ≡ Ok (history_of (entries_of_lines 1 lines))
  pub short : length (history_text lines) < 40000000

-- the lines of at most a million operations on at most 100,000 keys read back
abbrev pub GeneratedLinesReadBack : Type 0
GeneratedLinesReadBack =
    (seed keys ops : ℕ) → 1 ≤ keys → keys ≤ 100000 → ops ≤ 1000000 → ReadBack ops (lines_of seed keys ops)
