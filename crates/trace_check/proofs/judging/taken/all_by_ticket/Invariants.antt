use Rattle.std.proofs.Common.{◌≡◌, ℕ, ◌<◌, length, slice_index_or}
use Rattle.trace_check.specs.TakingSteps.{IsByTicket, Lookup}
use Rattle.stale_model.specs.RecordedRuns.{journal_of}
use Rattle.trace_check.proofs.judging.taken.all_by_ticket.Given as goal

abbrev pub invariant-loop-journal : goal.invariant-loop-journal
invariant-loop-journal l = record {
  as_many : length l.lookups.items ≡ l.journal-index;
  each : (replica : ℕ) (past : Lookup) → replica < l.journal-index → IsByTicket (journal_of l.journals replica) (slice_index_or l.lookups.items replica past);
}
