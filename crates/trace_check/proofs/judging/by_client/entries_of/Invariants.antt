use Rattle.std.proofs.Common.{◌≡◌, take}
use Rattle.stale_model.specs.RecordedRuns.{entries_of}
use Rattle.trace_check.proofs.judging.by_client.entries_of.Given as goal

abbrev pub invariant-loop-entry : goal.invariant-loop-entry
invariant-loop-entry l = l.own.items ≡ entries_of l.client (take l.entry-index l.entries)
