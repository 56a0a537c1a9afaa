use Rattle.std.proofs.Common.{◌≤◌, length, drop}
use Rattle.trace_check.specs.TakingSteps.{IsByTicket}
use Rattle.trace_check.proofs.judging.taken.by_ticket.Given as goal

abbrev pub invariant-loop-place : goal.invariant-loop-place
invariant-loop-place l = record {
  within : l.place ≤ length l.journal;
  found : IsByTicket (drop l.place l.journal) l.entries;
}

abbrev pub decreases-loop-place : goal.decreases-loop-place
decreases-loop-place l = l.place
