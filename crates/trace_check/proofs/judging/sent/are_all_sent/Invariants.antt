use Rattle.std.proofs.Common.{ℕ, ◌<◌}
use Rattle.stale_model.specs.RecordedRuns.{journal_of}
use Rattle.trace_check.specs.SendingSteps.{HasAllSent}
use Rattle.trace_check.proofs.judging.sent.are_all_sent.Given as goal

abbrev pub invariant-loop-replica : goal.invariant-loop-replica
invariant-loop-replica l = (k : ℕ) → k < l.replica → HasAllSent k l.calls (journal_of l.journals k)
