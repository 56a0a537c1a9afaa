use Rattle.std.proofs.Common.{◌≡◌, ◌++◌, take, option_map}
use Rattle.cert_text.specs.Numbers.{most_record, numbers_of}
use Rattle.cert_text.specs.Words.{words_after}
use Rattle.cert_text.proofs.numbers.numbers_of.Given as goal

abbrev pub invariant-loop-left : goal.invariant-loop-left
invariant-loop-left l = option_map (λ ns. l.numbers.items ++ ns) (numbers_of most_record (take l.left (words_after l.rest))) ≡ numbers_of most_record (take l.fn.count (words_after l.fn.words))

abbrev pub decreases-loop-left : goal.decreases-loop-left
decreases-loop-left l = l.left
