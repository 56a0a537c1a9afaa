use Rattle.std.proofs.Common.{take, true}
use Rattle.trace_check.specs.SendingSteps.{AreFirstOf}
use Rattle.trace_check.proofs.judging.sent.take_all.Given as goal

abbrev pub invariant-loop-line : goal.invariant-loop-line
invariant-loop-line l = AreFirstOf l.replica l.calls l.fn.due l.due (take l.line-index l.journal) true
