use Rattle.std.proofs.Common.{◌≡◌, ◌==◌, ◌+◌, ℕ, Some, take, length, ap, ◌∙◌, rules, position, sym, List, ◌∷◌}
use Rattle.std.proofs.lemmas.Slice.{between_to_end}
use Rattle.cert_text.proofs.Splits.{first_part, one_part}
use Rattle.cert_text.specs.Words.{lines_of}
use Rattle.cert_text.proofs.words.next_line.Goals as goal

pub returns-in-None-clause-none : goal.returns-in-None-clause-none
returns-in-None-clause-none c = one_part (λ b. b == 10) c.args.text.now (sym c.place_of.ensures ∙ c.in-None.is)

pub returns-in-Some-clause-some : goal.returns-in-Some-clause-some
returns-in-Some-clause-some c =
    let at : position (λ b. b == 10) c.args.text.now ≡ Some c.in-Some.place = sym c.place_of.ensures ∙ c.in-Some.is in
    let rest = between_to_end c.args.text.now (c.in-Some.place + 1) (length c.args.text.now) (search rules) in
    first_part (λ b. b == 10) c.args.text.now c.in-Some.place 0 at ∙ ap (λ (t : List ℕ). take c.in-Some.place c.args.text.now ∷ lines_of t) (sym rest)
