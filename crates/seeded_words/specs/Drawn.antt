-- How many words of a seed are drawn.
use Rattle.std.specs.Prelude.{◌≡◌, ℕ}
use Rattle.rand_pcg.specs.Lcg.{advance}
use Rattle.rand_pcg.specs.Pcg.{multiplier_64}
use Rattle.seeded_words.specs.declared.Words.{Words}
use Rattle.seeded_words.specs.Words.{generator_of}

-- the first n words of the seed are drawn, and no others
pub record HasDrawn (seed n : ℕ) (words : Words) : Type 0 where
  pub state : words.generator ≡ advance 64 multiplier_64 n (generator_of seed)
