use Rattle.std.proofs.Common.{◌≡◌, ◌+◌, ◌≤◌, length, None}
use Rattle.cert_text.specs.Words.{lines_of}
use Rattle.trace_check.specs.declared.reading.TraceFault.TheVariants as fault
use Rattle.trace_check.specs.Reading.{lines_read, replica_of, read_entry}
use Rattle.trace_check.proofs.LineSteps.{last_of, behind}
use Rattle.trace_check.proofs.reading.files.entries_after.Given as goal

abbrev pub invariant-loop-line : goal.invariant-loop-line
invariant-loop-line l = record {
  reads : behind l.entries.items (lines_read fault.Journal (read_entry l.settings) l.number (last_of l.entries.items) (lines_of l.rest)) ≡ lines_read fault.Journal (read_entry l.settings) 2 None (lines_of l.fn.text);
  least : l.least ≡ replica_of (last_of l.entries.items);
  counts : l.number + length l.rest ≤ length l.fn.text + 2;
}

abbrev pub decreases-loop-line : goal.decreases-loop-line
decreases-loop-line l = length l.rest
