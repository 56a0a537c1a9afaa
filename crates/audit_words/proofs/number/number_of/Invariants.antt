use Rattle.std.proofs.Common.{◌≡◌, ◌<◌, ◌≤◌, ◌^◌, true, take, length}
use Rattle.std.specs.List.{list_all}
use Rattle.audit_words.specs.Numbers.{decimal, is_digit}
use Rattle.audit_words.proofs.number.number_of.Given as goal

abbrev pub invariant-loop-byte : goal.invariant-loop-byte
invariant-loop-byte l = record {
  number : l.number ≡ decimal (take l.byte-index l.text);
  small : l.number < 10 ^ l.byte-index;
  digits : list_all is_digit (take l.byte-index l.text) ≡ true;
  short : length l.text ≤ 20;
}
