use Rattle.std.proofs.Common.{◌≡◌, drop}
use Rattle.staleness_report.specs.Report.{write_of_value}
use Rattle.staleness_report.proofs.lines.write_among.Given as goal

abbrev pub invariant-loop-op : goal.invariant-loop-op
invariant-loop-op l = write_of_value (drop l.op-index l.ops) l.value ≡ write_of_value l.fn.ops l.value
