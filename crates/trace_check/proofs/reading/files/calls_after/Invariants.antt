use Rattle.std.proofs.Common.{◌≡◌, ◌+◌, ◌≤◌, length, None}
use Rattle.cert_text.specs.Words.{lines_of}
use Rattle.trace_check.specs.declared.reading.TraceFault.TheVariants as fault
use Rattle.trace_check.specs.Reading.{lines_read, read_call}
use Rattle.trace_check.proofs.LineSteps.{last_of, behind}
use Rattle.trace_check.proofs.reading.files.calls_after.Given as goal

abbrev pub invariant-loop-line : goal.invariant-loop-line
invariant-loop-line l = record {
  reads : behind l.calls.items (lines_read fault.History (read_call l.settings) l.number (last_of l.calls.items) (lines_of l.rest)) ≡ lines_read fault.History (read_call l.settings) 2 None (lines_of l.fn.text);
  counts : l.number + length l.rest ≤ length l.fn.text + 2;
}

abbrev pub decreases-loop-line : goal.decreases-loop-line
decreases-loop-line l = length l.rest
