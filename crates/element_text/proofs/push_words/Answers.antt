use Rattle.std.proofs.Common.{◌∙◌}
use Rattle.element_text.proofs.Fronts.{at_error, front_of_words}
use Rattle.element_text.proofs.push_words.Goals as goal

pub returns-in_err-push_escaped-clause-front : goal.returns-in_err-push_escaped-clause-front
returns-in_err-push_escaped-clause-front c =
    at_error c.from_residual.result _
    (front_of_words c.args.text.now.items c.push_escaped.new.text.items c.args.words.now c.loop-byte.byte-index (c.in_err-push_escaped.ensures.unchanged ∙ c.loop-byte.invariant))
