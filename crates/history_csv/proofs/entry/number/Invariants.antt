use Rattle.std.proofs.Common.{◌≡◌, ◌<◌, ◌≤◌, ◌^◌, true, take, length}
use Rattle.std.specs.List.{list_all}
use Rattle.history_csv.specs.Entries.{number_from_digits, is_digit}
use Rattle.history_csv.proofs.entry.number.Given as goal

abbrev pub invariant-loop-byte : goal.invariant-loop-byte
invariant-loop-byte l = record {
  number : l.number ≡ number_from_digits (take l.byte-index l.text);
  small : l.number < 10 ^ l.byte-index;
  digits : list_all is_digit (take l.byte-index l.text) ≡ true;
  short : length l.text ≤ l.most;
}
