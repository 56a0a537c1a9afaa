-- What serves the code alone: the counts of the last line, as one pass over the verdicts makes them.
use Rattle.std.specs.Prelude.{List, count_by}
use Rattle.stale_model.specs.declared.Verdict.{Verdict}
use Rattle.staleness_report.specs.declared.last_line.Totals.{Totals}
use Rattle.staleness_report.specs.Report.{is_duplicate, is_unmatched, is_infinite, is_atomic, is_two_atomic, worst_delta}

-- the totals of these verdicts
abbrev pub totals_of : List Verdict → Totals
totals_of verdicts = record {
  duplicate = count_by is_duplicate verdicts;
  unmatched = count_by is_unmatched verdicts;
  infinite = count_by is_infinite verdicts;
  atomic = count_by is_atomic verdicts;
  two_atomic = count_by is_two_atomic verdicts;
  worst = worst_delta verdicts;
}
