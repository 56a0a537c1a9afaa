use Rattle.history_csv.specs.Records.{IsReading}
use Rattle.history_csv.proofs.builder.has_many_keys.Given as goal

abbrev pub invariant-loop-record : goal.invariant-loop-record
invariant-loop-record l = IsReading l.reader
