-- The clients whose ends were taken in, and those that wait.
use Rattle.std.proofs.Common.{◌≡◌, ℕ, ◌<◌, ◌≤◌, length, take, flat_map, sum_by, slice_index_or}
use Rattle.quorum_client.specs.declared.client.ClientEnd.{ClientEnd}
use Rattle.bench_run.specs.declared.boxes.NoteBox.{NoteBox}
use Rattle.bench_run.specs.declared.boxes.ReplyBox.{ReplyBox}
use Rattle.bench_run.specs.Ends.{HasTickets, HasReplies, HasNotes}
use Rattle.bench_run.proofs.ends.take_in_clients.Given as goal

abbrev pub invariant-loop-client : goal.invariant-loop-client
invariant-loop-client g l = record {
  can : (goal.iterator-loop-client g).can_next l.client-iterator;
  finite : (goal.iterator-loop-client g).is_finite l.client-iterator;
  seat : HasTickets (flat_map (λ (e : ClientEnd). e.seat.drawn) (take (length l.yielded) l.fn.ends.items)) (sum_by (λ (e : ClientEnd). e.seat.left) (take (length l.yielded) l.fn.ends.items)) l.fn.seat l.seat;
  done : (k : ℕ) (b : ReplyBox) (e : ClientEnd) → k < length l.yielded → HasReplies (slice_index_or l.fn.ends.items k e) (slice_index_or l.fn.inboxes k b) (slice_index_or l.inboxes k b);
  rest : (k : ℕ) (b : ReplyBox) → length l.yielded ≤ k → slice_index_or l.inboxes k b ≡ slice_index_or l.fn.inboxes k b;
  notes : (k : ℕ) (b : NoteBox) → k < length l.boxes → HasNotes k (take (length l.yielded) l.fn.ends.items) (slice_index_or l.fn.boxes k b) (slice_index_or l.boxes k b);
}
