-- A word drawn is the next one of each seed of which the words before it are drawn.
use Rattle.std.proofs.Common.{ℕ, ap, ◌∙◌}
use Rattle.rand_pcg.specs.Lcg.{Lcg}
use Rattle.rand_pcg.specs.Pcg.{pcg32}
use Rattle.seeded_words.specs.Words.{generator_of, word}
use Rattle.seeded_words.proofs.Steps.{next-advance}
use Rattle.seeded_words.proofs.Words.draw.Goals as goal

pub returns-clause-word : goal.returns-clause-word
unfolding word
returns-clause-word c = λ seed n drawn. ap (λ (p : ℕ × Lcg). p.0) c.next_word.ensures ∙ ap (λ (g : Lcg). (pcg32 g).0) drawn.state

pub returns-clause-drawn : goal.returns-clause-drawn
returns-clause-drawn c = λ seed n drawn. record {
  state = ap (λ (p : ℕ × Lcg). p.1) c.next_word.ensures
      ∙ (ap (λ (g : Lcg). (pcg32 g).1) drawn.state ∙ next-advance n (generator_of seed));
}
