use Rattle.std.proofs.Common.{◌≡◌, ◌==◌, ℕ, Some, List, ◌∷◌, take, length, position, sym, ap, ◌∙◌, rules}
use Rattle.std.proofs.lemmas.Slice.{between_to_end}
use Rattle.cert_text.specs.Words.{words_after}
use Rattle.cert_text.proofs.Splits.{first_word_is, one_part}
use Rattle.cert_text.proofs.words.first_word.Goals as goal

pub returns-in-Some-clause-word : goal.returns-in-Some-clause-word
returns-in-Some-clause-word c =
    let at : position (λ b. b == 32) c.args.text.now ≡ Some c.in-Some.place = sym c.place_of.ensures ∙ c.in-Some.is in
    let rest = between_to_end c.args.text.now c.in-Some.place (length c.args.text.now) (search rules) in
    first_word_is c.args.text.now c.in-Some.place at ∙ ap (λ (t : List ℕ). take c.in-Some.place c.args.text.now ∷ words_after t) (sym rest)

pub returns-in-None-clause-word : goal.returns-in-None-clause-word
returns-in-None-clause-word c = one_part (λ b. b == 32) c.args.text.now (sym c.place_of.ensures ∙ c.in-None.is)
