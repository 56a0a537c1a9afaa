use Rattle.std.proofs.Common.{sym, ◌∙◌}
use Rattle.cert_text.specs.Words.{words_after}
use Rattle.cert_text.proofs.Places.{get-at, get-past}
use Rattle.cert_text.proofs.words.word_at.Goals as goal

pub returns-in-Some : goal.returns-in-Some
returns-in-Some c = sym (get-at (words_after c.args.text.now) c.args.place _ _ (sym c.skip_words.ensures ∙ c.in-Some.ensures.some))

pub returns-in-None : goal.returns-in-None
returns-in-None c = sym (get-past (words_after c.args.text.now) c.args.place (sym c.skip_words.ensures ∙ c.in-None.ensures.none))
