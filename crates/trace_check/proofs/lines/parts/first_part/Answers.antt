use Rattle.std.proofs.Common.{◌≡◌, ◌==◌, ℕ, Some, List, ◌∷◌, take, length, position, sym, ap, ◌∙◌, rules}
use Rattle.std.proofs.lemmas.Slice.{between_to_end}
use Rattle.cert_text.proofs.Splits.{one_part}
use Rattle.trace_check.specs.Lines.{parts_after}
use Rattle.trace_check.proofs.Fields.{first_part_is}
use Rattle.trace_check.proofs.lines.parts.first_part.Goals as goal

pub returns-in-Some-clause-part : goal.returns-in-Some-clause-part
returns-in-Some-clause-part c =
    let at : position (λ b. b == c.args.byte) c.args.text.now ≡ Some c.in-Some.place = sym c.place_of.ensures ∙ c.in-Some.is in
    let rest = between_to_end c.args.text.now c.in-Some.place (length c.args.text.now) (search rules) in
    first_part_is c.args.byte c.args.text.now c.in-Some.place at ∙ ap (λ (t : List ℕ). take c.in-Some.place c.args.text.now ∷ parts_after c.args.byte t) (sym rest)

pub returns-in-None-clause-part : goal.returns-in-None-clause-part
returns-in-None-clause-part c = one_part (λ b. b == c.args.byte) c.args.text.now (sym c.place_of.ensures ∙ c.in-None.is)
