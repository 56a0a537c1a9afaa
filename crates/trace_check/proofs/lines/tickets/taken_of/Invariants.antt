use Rattle.std.proofs.Common.{length}
use Rattle.stale_model.specs.Texts.{semicolon}
use Rattle.trace_check.specs.Lines.{parts_after}
use Rattle.trace_check.proofs.Tickets.{AreRead}
use Rattle.trace_check.proofs.lines.tickets.taken_of.Given as goal

abbrev pub invariant-loop-part : goal.invariant-loop-part
invariant-loop-part l = AreRead l.fn.field l.took l.count (parts_after semicolon l.rest)

abbrev pub decreases-loop-part : goal.decreases-loop-part
decreases-loop-part l = length l.rest
