-- One line more.
use Rattle.std.proofs.Common.{◌≡◌, ℕ, ◌+◌, ◌*◌, [], ◌∷◌, ◌++◌, ap, refl, ◌∙◌}
use Rattle.std.proofs.Math.Numerals.{suc-eq-add-one}
use Rattle.stale_model.specs.declared.Line.{Line}
use Rattle.seeded_words.specs.Words.{word}
use Rattle.history_gen.specs.Generated.{next_line, lines_of}

-- no operation gives no line
pub lines_of-zero : (seed keys : ℕ) → [] ≡ lines_of seed keys 0
unfolding lines_of
lines_of-zero seed keys = refl

-- the lines of n operations, and the one that the next three words give
pub lines_of-next : (seed keys n : ℕ) (line : Line)
    → line ≡ next_line keys (n + 1) (lines_of seed keys n) (word seed (3 * n)) (word seed (3 * n + 1)) (word seed (3 * n + 2))
    → lines_of seed keys n ++ line ∷ [] ≡ lines_of seed keys (n + 1)
unfolding lines_of
lines_of-next seed keys n line is = ap (λ (l : Line). lines_of seed keys n ++ l ∷ []) is ∙ ap (lines_of seed keys) (suc-eq-add-one n)
