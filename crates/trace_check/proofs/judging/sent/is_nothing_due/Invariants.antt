use Rattle.std.proofs.Common.{◌≡◌, ℕ, ◌<◌, []}
use Rattle.trace_check.specs.SendingSteps.{due_of}
use Rattle.trace_check.proofs.judging.sent.is_nothing_due.Given as goal

abbrev pub invariant-loop-client : goal.invariant-loop-client
invariant-loop-client l = (k : ℕ) → k < l.client → due_of l.replica l.calls l.due k ≡ []
