use Rattle.std.proofs.Common.{◌≡◌, ◌==◌, filter, take}
use Rattle.trace_check.proofs.reading.replies.journal_of.Given as goal

abbrev pub invariant-loop-line : goal.invariant-loop-line
invariant-loop-line l = l.journal.items ≡ filter (λ j. j.reply.replica == l.replica) (take l.line-index l.lines)
