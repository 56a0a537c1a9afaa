use Rattle.std.proofs.Common.{subst, sym, rules}
use Rattle.std.specs.Str.Parse.{ParsesUnsigned}
use Rattle.cert_text.proofs.Numerals.{numeral_is_text, refused_numeral}
use Rattle.cert_text.proofs.numbers.long_number.Goals as goal

pub returns-in_default : goal.returns-in_default
returns-in_default c = absurd (c.in_default.ensures.cases.0 (numeral_is_text c.args.word.now (search rules)))

pub returns-in_default-parse : goal.returns-in_default-parse
returns-in_default-parse c =
    let parses = subst (λ t. ParsesUnsigned 64 10 t c.parse.result) c.in-Ok.ensures.cases.0 c.parse.ensures.value.0 in
    sym (refused_numeral c.args.word.now c.args.most c.parse.result _ (search rules) (search rules) parses c.in_default-parse.is)
