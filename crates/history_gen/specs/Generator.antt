-- What is known between two operations.
use Rattle.std.specs.Prelude.{◌≡◌, ℕ, ◌*◌, length}
use Rattle.seeded_words.specs.Drawn.{HasDrawn}
use Rattle.history_gen.specs.declared.Generator.{Generator}
use Rattle.history_gen.specs.Generated.{lines_of}
use Rattle.history_gen.specs.LastWrites.{AreLastWrites}

-- it has made the lines of the first n operations, and their words are drawn
pub record HasMade (seed keys n : ℕ) (generator : Generator) : Type 0 where
  pub words : HasDrawn seed (3 * n) generator.words
  pub slots : length generator.last_writes.items ≡ keys
  pub last_writes : AreLastWrites (lines_of seed keys n) generator.last_writes.items
  pub lines : generator.lines.items ≡ lines_of seed keys n
