use Rattle.std.proofs.Common.{◌≡◌, ◌≤◌, ◌==◌, take}
use Rattle.std.specs.List.{count_by}
use Rattle.cert_text.proofs.words.count_parts.Given as goal

abbrev pub invariant-loop-byte : goal.invariant-loop-byte
invariant-loop-byte l = record {
  counted : l.blanks ≡ count_by (λ b. b == 32) (take l.byte-index l.words);
  few : l.blanks ≤ l.byte-index;
}
