use Rattle.std.proofs.Common.{◌≡◌, ◌++◌, map, take}
use Rattle.trace_check.proofs.judging.timed.add_serves.Given as goal

abbrev pub invariant-loop-entry : goal.invariant-loop-entry
invariant-loop-entry l = l.tickets.items ≡ l.initial.tickets.items ++ map (λ j. j.reply.serve) (take l.entry-index l.journal)
