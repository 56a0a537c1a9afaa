use Rattle.std.proofs.Common.{List, take}
use Rattle.std.specs.Prelude.{All}
use Rattle.stale_model.specs.declared.store.JournalEntry.{JournalEntry}
use Rattle.stale_model.specs.RecordedRuns.{AreTaken}
use Rattle.trace_check.specs.TakingSteps.{AreByTicket, AreServedOnce}
use Rattle.trace_check.proofs.judging.taken.are_all_taken.Given as goal

abbrev pub invariant-loop-call : goal.invariant-loop-call
invariant-loop-call l = (journals : List (List JournalEntry)) → AreByTicket journals l.lookups → AreServedOnce journals → All (AreTaken l.settings journals) (take l.call-index l.entries)
