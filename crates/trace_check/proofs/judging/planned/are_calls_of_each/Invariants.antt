use Rattle.std.proofs.Common.{ℕ, ◌<◌, [], get_or}
use Rattle.stale_model.specs.Settings.{calls_of}
use Rattle.trace_check.specs.CallSteps.{AreCalls}
use Rattle.trace_check.proofs.judging.planned.are_calls_of_each.Given as goal

abbrev pub invariant-loop-client : goal.invariant-loop-client
invariant-loop-client l = (k : ℕ) → k < l.client → AreCalls (calls_of l.plan k) (get_or l.groups k [])
