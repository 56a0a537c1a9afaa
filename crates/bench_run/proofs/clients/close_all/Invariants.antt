-- The clients that are closed, and whose passes went back.
use Rattle.std.proofs.Common.{◌≡◌, ℕ, ◌<◌, ◌≤◌, length, slice_index_or, vec_len, vec_capacity}
use Rattle.quorum_client.specs.declared.client.ClientEnd.{ClientEnd}
use Rattle.key_recorder.specs.Recorders.{LogView, IsTold}
use Rattle.bench_run.specs.declared.runner.Runner.{Runner}
use Rattle.bench_run.specs.Closing.{end_of, AreKept}
use Rattle.bench_run.proofs.clients.close_all.Given as goal

abbrev pub invariant-loop-runner : goal.invariant-loop-runner
invariant-loop-runner g l = record {
  many : vec_len l.ends ≡ length l.yielded;
  room : vec_len l.fn.runners ≤ vec_capacity l.ends;
  kept : AreKept l.fn.logs l.logs;
  ends : (j : ℕ) (r : Runner) (e : ClientEnd) → j < length l.yielded → slice_index_or l.ends.items j e ≡ end_of (slice_index_or l.fn.runners.items j r).client;
  told : (j k : ℕ) (r : Runner) (d : LogView) → j < length l.yielded → k < length l.fn.logs
      → IsTold (slice_index_or l.fn.logs k d) (slice_index_or l.fn.runners.items j r).pass;
}
