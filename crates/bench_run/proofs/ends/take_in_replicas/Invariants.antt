-- The replicas whose ends were taken in, and those that wait.
use Rattle.std.proofs.Common.{◌≡◌, ℕ, ◌+◌, ◌<◌, ◌≤◌, ◌++◌, length, take, map, flat_map, sum_by, slice_index_or, vec_len, vec_capacity}
use Rattle.bench_run.specs.declared.boxes.NoteBox.{NoteBox}
use Rattle.bench_run.specs.declared.boxes.ReplyBox.{ReplyBox}
use Rattle.bench_run.specs.declared.job.ReplyRoute.{ReplyRoute}
use Rattle.bench_run.specs.declared.job.BenchEnd.{BenchEnd}
use Rattle.bench_run.specs.Ends.{HasTickets, IsSameInbox, IsToldNotes, IsToldReplies}
use Rattle.bench_run.proofs.ends.take_in_replicas.Given as goal

abbrev pub invariant-loop-replica : goal.invariant-loop-replica
invariant-loop-replica g l = record {
  can : (goal.iterator-loop-replica g).can_next l.replica-iterator;
  finite : (goal.iterator-loop-replica g).is_finite l.replica-iterator;
  seat : HasTickets (flat_map (λ (e : BenchEnd). e.seat.drawn) (take (length l.yielded) l.fn.ends.items)) (sum_by (λ (e : BenchEnd). e.seat.left) (take (length l.yielded) l.fn.ends.items)) l.fn.seat l.seat;
  rest : (k : ℕ) (b : NoteBox) → length l.yielded ≤ k → slice_index_or l.boxes k b ≡ slice_index_or l.fn.boxes k b;
  notes : (k : ℕ) (b : NoteBox) (e : BenchEnd) → k < length l.yielded → IsToldNotes (slice_index_or l.fn.boxes k b) (slice_index_or l.fn.ends.items k e);
  same : (c : ℕ) (b : ReplyBox) → c < length l.inboxes → IsSameInbox (slice_index_or l.fn.inboxes c b) (slice_index_or l.inboxes c b);
  replies : (k c : ℕ) (b : ReplyBox) (e : BenchEnd) (r : ReplyRoute) → k < length l.yielded → c < length l.inboxes → IsToldReplies (slice_index_or l.fn.inboxes c b) (slice_index_or (slice_index_or l.fn.ends.items k e).routes.items c r);
  journals : l.journals.items ≡ l.fn.journals.items ++ map (λ (e : BenchEnd). e.replica.journal) (take (length l.yielded) l.fn.ends.items);
  many : vec_len l.journals ≡ vec_len l.fn.journals + length l.yielded;
  room : vec_capacity l.journals ≡ vec_capacity l.fn.journals;
}
