use Rattle.std.proofs.Common.{◌≡◌, ℕ, ◌+◌, ◌<◌}
use Rattle.std.specs.Prelude.{Some, slice_get}
use Rattle.stale_model.specs.declared.store.PlanCall.{PlanCall}
use Rattle.stale_model.specs.declared.store.Entry.{Entry}
use Rattle.stale_model.specs.RecordedRuns.{IsAsPlanned}
use Rattle.trace_check.proofs.judging.planned.are_calls.Given as goal

abbrev pub invariant-loop-place : goal.invariant-loop-place
invariant-loop-place l = (k : ℕ) (e : Entry) (call : PlanCall) → k < l.place → slice_get l.own k ≡ Some e → slice_get l.calls k ≡ Some call → IsAsPlanned (k + 1) call e
