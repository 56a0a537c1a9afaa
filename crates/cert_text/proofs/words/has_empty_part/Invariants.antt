use Rattle.std.proofs.Common.{◌≡◌, ◌||◌, drop}
use Rattle.std.specs.List.{list_any}
use Rattle.cert_text.specs.Words.{words_of, is_empty}
use Rattle.cert_text.proofs.EmptyParts.{empty_from}
use Rattle.cert_text.proofs.words.has_empty_part.Given as goal

abbrev pub invariant-loop-byte : goal.invariant-loop-byte
invariant-loop-byte l = (l.found || empty_from l.empty (drop l.byte-index l.words)) ≡ list_any is_empty (words_of l.words)
