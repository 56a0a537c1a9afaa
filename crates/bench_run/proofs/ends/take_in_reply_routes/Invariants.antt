-- The inboxes to which a sender came back, and the inboxes that wait.
use Rattle.std.proofs.Common.{◌≡◌, ℕ, ◌<◌, ◌≤◌, length, slice_index_or}
use Rattle.bench_run.specs.declared.job.ReplyRoute.{ReplyRoute}
use Rattle.bench_run.specs.declared.boxes.ReplyBox.{ReplyBox}
use Rattle.bench_run.specs.Ends.{IsSameInbox, IsToldReplies}
use Rattle.bench_run.proofs.ends.take_in_reply_routes.Given as goal

abbrev pub invariant-loop-client : goal.invariant-loop-client
invariant-loop-client g l = record {
  can : (goal.iterator-loop-client g).can_next l.client-iterator;
  finite : (goal.iterator-loop-client g).is_finite l.client-iterator;
  rest : (k : ℕ) (b : ReplyBox) → length l.yielded ≤ k → slice_index_or l.inboxes k b ≡ slice_index_or l.fn.inboxes k b;
  same : (k : ℕ) (b : ReplyBox) → k < length l.yielded → IsSameInbox (slice_index_or l.fn.inboxes k b) (slice_index_or l.inboxes k b);
  replies : (k : ℕ) (b : ReplyBox) (r : ReplyRoute) → k < length l.yielded → IsToldReplies (slice_index_or l.fn.inboxes k b) (slice_index_or l.fn.routes.items k r);
}
