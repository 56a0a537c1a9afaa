-- The repairs of the replicas so far.
use Rattle.std.proofs.Common.{◌≡◌, ◌<◌, ◌≤◌, ℕ, length, slice_index_or}
use Rattle.quorum_client.specs.declared.letters.Route.{Route}
use Rattle.quorum_client.specs.Routes.{repaired}
use Rattle.quorum_client.proofs.client.send_repairs.Given as goal

abbrev pub invariant-loop-k : goal.invariant-loop-k
invariant-loop-k g l = record {
  as_many : length l.routes.items ≡ length l.fn.routes.items;
  done : (j : ℕ) (r : Route) → j < l.k → slice_index_or l.routes.items j r ≡ repaired l.entry j (slice_index_or l.fn.routes.items j r);
  rest : (j : ℕ) (r : Route) → l.k ≤ j → j < length l.routes.items → slice_index_or l.routes.items j r ≡ slice_index_or l.fn.routes.items j r;
}
