use Rattle.std.proofs.Common.{◌≡◌, ◌+◌, ◌≤◌, length}
use Rattle.cert_text.specs.Words.{lines_of}
use Rattle.cert_text.specs.Reading.{read_from, read_of}
use Rattle.cert_text.proofs.read_cert.Given as goal

abbrev pub invariant-loop-words : goal.invariant-loop-words
invariant-loop-words l = record {
  reads : read_from l.keys l.line l.reading (lines_of l.rest) ≡ read_of l.keys l.fn.text;
  counts : l.line + length l.rest ≤ length l.fn.text + 1;
}

abbrev pub decreases-loop-words : goal.decreases-loop-words
decreases-loop-words l = length l.rest
