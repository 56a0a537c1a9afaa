use Rattle.std.proofs.Common.{◌≡◌, ◌≤◌, take}
use Rattle.csv.specs.Records.{fields_of}
use Rattle.history_csv.specs.Header.{times_named}
use Rattle.history_csv.proofs.header.times_named.Given as goal

abbrev pub invariant-loop-place : goal.invariant-loop-place
invariant-loop-place l = record {
  counted : l.times ≡ times_named l.name (take l.place (fields_of l.header));
  few : l.times ≤ l.place;
}
