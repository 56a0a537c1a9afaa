use Rattle.std.proofs.Common.{◌≡◌, drop}
use Rattle.cert_text.specs.Words.{words_after}
use Rattle.cert_text.proofs.words.skip_words.Given as goal

abbrev pub invariant-loop-left : goal.invariant-loop-left
invariant-loop-left l = drop l.left (words_after l.rest) ≡ drop l.fn.count (words_after l.fn.text)

abbrev pub decreases-loop-left : goal.decreases-loop-left
decreases-loop-left l = l.left
