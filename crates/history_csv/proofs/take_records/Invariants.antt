use Rattle.history_csv.specs.Records.{IsReading, records_left}
use Rattle.history_csv.proofs.ReadSteps.{ReadSoFar}
use Rattle.history_csv.proofs.take_records.Given as goal

abbrev pub invariant-loop-rec : goal.invariant-loop-rec
invariant-loop-rec l = record {
  reading : IsReading l.reader;
  so_far : ReadSoFar l.columns l.rec (records_left l.reader) (records_left l.fn.reader) l.history;
}
