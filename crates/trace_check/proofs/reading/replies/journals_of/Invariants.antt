use Rattle.std.proofs.Common.{◌≡◌}
use Rattle.trace_check.specs.Reading.{journals_of}
use Rattle.trace_check.proofs.reading.replies.journals_of.Given as goal

abbrev pub invariant-loop-replica : goal.invariant-loop-replica
invariant-loop-replica l = l.journals.items ≡ journals_of l.replica l.lines
