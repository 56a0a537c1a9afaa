use Rattle.std.proofs.Common.{◌≡◌, map}
use Rattle.std.specs.List.{range_with_len}
use Rattle.stale_model.specs.RecordedRuns.{entries_of}
use Rattle.trace_check.proofs.judging.by_client.entries_by_client.Given as goal

abbrev pub invariant-loop-client : goal.invariant-loop-client
invariant-loop-client l = l.groups.items ≡ map (λ c. entries_of c l.entries) (range_with_len 0 l.client)
