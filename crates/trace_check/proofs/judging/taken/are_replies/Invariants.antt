use Rattle.std.proofs.Common.{List, take}
use Rattle.std.specs.Prelude.{All}
use Rattle.stale_model.specs.declared.store.JournalEntry.{JournalEntry}
use Rattle.stale_model.specs.RecordedRuns.{IsReplyTo}
use Rattle.trace_check.specs.TakingSteps.{AreByTicket, AreServedOnce}
use Rattle.trace_check.proofs.judging.taken.are_replies.Given as goal

abbrev pub invariant-loop-took : goal.invariant-loop-took
invariant-loop-took l = (journals : List (List JournalEntry)) → AreByTicket journals l.lookups → AreServedOnce journals → All (IsReplyTo journals l.call) (take l.took-index l.taken)
