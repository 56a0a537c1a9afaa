-- No word is drawn of a new generator.
use Rattle.std.proofs.Common.{◌∙◌}
use Rattle.seeded_words.specs.Words.{generator_of}
use Rattle.seeded_words.proofs.Steps.{advance-zero}
use Rattle.seeded_words.proofs.Words.of_seed.Goals as goal

pub returns : goal.returns
returns c = record { state = c.seed_from_u64.ensures ∙ advance-zero (generator_of c.args.seed) }
