use Rattle.std.proofs.Common.{◌≡◌, ◌++◌, take}
use Rattle.element_text.specs.Elements.{escaped}
use Rattle.element_text.proofs.push_words.Given as goal

abbrev pub invariant-loop-byte : goal.invariant-loop-byte
invariant-loop-byte l = l.text.items ≡ l.fn.text.items ++ escaped (take l.byte-index l.words)
