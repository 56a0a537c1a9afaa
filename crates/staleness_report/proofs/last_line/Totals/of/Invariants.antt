use Rattle.std.proofs.Common.{◌≡◌, take}
use Rattle.staleness_report.specs.Counting.{totals_of}
use Rattle.staleness_report.proofs.last_line.Totals.of.Given as goal

abbrev pub invariant-loop-verdict : goal.invariant-loop-verdict
invariant-loop-verdict l = l.totals ≡ totals_of (take l.verdict-index l.verdicts)
