-- The boxes to which a sender came back, and the boxes that wait.
use Rattle.std.proofs.Common.{◌≡◌, ℕ, ◌<◌, ◌≤◌, length, slice_index_or}
use Rattle.quorum_client.specs.declared.letters.Route.{Route}
use Rattle.bench_run.specs.declared.boxes.NoteBox.{NoteBox}
use Rattle.bench_run.specs.Ends.{with_route}
use Rattle.bench_run.proofs.ends.take_in_routes.Given as goal

abbrev pub invariant-loop-replica : goal.invariant-loop-replica
invariant-loop-replica g l = record {
  can : (goal.iterator-loop-replica g).can_next l.replica-iterator;
  finite : (goal.iterator-loop-replica g).is_finite l.replica-iterator;
  done : (k : ℕ) (b : NoteBox) (r : Route) → k < length l.yielded → slice_index_or l.boxes k b ≡ with_route (slice_index_or l.fn.routes k r) (slice_index_or l.fn.boxes k b);
  rest : (k : ℕ) (b : NoteBox) → length l.yielded ≤ k → slice_index_or l.boxes k b ≡ slice_index_or l.fn.boxes k b;
}
