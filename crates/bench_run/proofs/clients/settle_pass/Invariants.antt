-- The logs that have settled so far, and the lanes that are still to go back.
use Rattle.std.proofs.Common.{◌≡◌, ℕ, ◌<◌, ◌≤◌, length, slice_index_or}
use Rattle.key_recorder.specs.Recorders.{LogView, IsTold}
use Rattle.bench_run.specs.Closing.{with_settled}
use Rattle.bench_run.proofs.Settling.{IsSameFrom}
use Rattle.bench_run.proofs.clients.settle_pass.Given as goal

abbrev pub invariant-loop-log : goal.invariant-loop-log
invariant-loop-log g l = record {
  pass : IsSameFrom l.log-index l.fn.pass l.pass;
  told : (k : ℕ) (d : LogView) → k < l.log-index → IsTold (slice_index_or l.fn.logs k d) l.fn.pass;
  done : (k : ℕ) (d : LogView) → k < l.log-index → slice_index_or l.logs k d ≡ with_settled l.fn.pass.client (slice_index_or l.fn.logs k d);
  rest : (k : ℕ) (d : LogView) → l.log-index ≤ k → k < length l.fn.logs → slice_index_or l.logs k d ≡ slice_index_or l.fn.logs k d;
}
