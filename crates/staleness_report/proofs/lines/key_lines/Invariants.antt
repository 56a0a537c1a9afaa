use Rattle.std.proofs.Common.{◌≡◌, ◌++◌, drop}
use Rattle.std.specs.String.{string_bytes}
use Rattle.staleness_report.specs.Report.{key_lines}
use Rattle.staleness_report.proofs.lines.key_lines.Given as goal

abbrev pub invariant-loop-place : goal.invariant-loop-place
invariant-loop-place l = string_bytes l.text ++ key_lines (drop l.place l.keys) (drop l.place l.verdicts) ≡ key_lines l.fn.keys l.fn.verdicts
