-- The words of a seed: those of Pcg32 (O'Neill, 2014).
use Rattle.std.specs.Prelude.{ℕ}
use Rattle.rand_core.specs.Pcg32Seed.{pcg32_seed}
use Rattle.rand_pcg.specs.Lcg.{Lcg, advance}
use Rattle.rand_pcg.specs.Pcg.{multiplier_64, pcg32, pcg32_of_seed}

-- the generator of a seed
abbrev pub generator_of : ℕ → Lcg
generator_of seed = pcg32_of_seed (pcg32_seed 16 seed)

-- the word that a generator gives after j others
abbrev pub word_after : ℕ → Lcg → ℕ
word_after j generator = (pcg32 (advance 64 multiplier_64 j generator)).0

-- word j of a seed, counted from 0
unfoldable pub word : ℕ → ℕ → ℕ
word seed j = word_after j (generator_of seed)
