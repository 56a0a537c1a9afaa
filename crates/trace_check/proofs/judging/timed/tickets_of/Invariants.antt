use Rattle.std.proofs.Common.{◌≡◌, take}
use Rattle.stale_model.specs.RecordedRuns.{tickets_of}
use Rattle.trace_check.proofs.judging.timed.tickets_of.Given as goal

abbrev pub invariant-loop-journal : goal.invariant-loop-journal
invariant-loop-journal l = l.tickets.items ≡ tickets_of l.entries (take l.journal-index l.journals)
