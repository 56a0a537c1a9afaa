use Rattle.std.proofs.Common.{ℕ, ◌<◌}
use Rattle.stale_model.specs.Journals.{IsJournal}
use Rattle.stale_model.specs.RecordedRuns.{journal_of}
use Rattle.trace_check.proofs.judging.served.are_journals.Given as goal

abbrev pub invariant-loop-replica : goal.invariant-loop-replica
invariant-loop-replica l = (k : ℕ) → k < l.replica → IsJournal k (journal_of l.journals k)
