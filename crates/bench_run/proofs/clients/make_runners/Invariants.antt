-- The runners so far, in the order of the clients.
use Rattle.std.proofs.Common.{◌≡◌, ℕ, ◌<◌, ◌≤◌, length, slice_index_or, vec_len, vec_capacity}
use Rattle.key_recorder.specs.Recorders.{PassView}
use Rattle.bench_run.specs.declared.parts.ClientParts.{ClientParts}
use Rattle.bench_run.specs.declared.runner.Runner.{Runner}
use Rattle.bench_run.specs.Closing.{first_runner}
use Rattle.bench_run.proofs.clients.make_runners.Given as goal

abbrev pub invariant-loop-parts : goal.invariant-loop-parts
invariant-loop-parts l = record {
  many : vec_len l.runners ≡ length l.yielded;
  room : l.settings.clients ≤ vec_capacity l.runners;
  each : (k : ℕ) (r : Runner) (c : ClientParts) (p : PassView) → k < length l.yielded
      → slice_index_or l.runners.items k r ≡ first_runner l.settings k (slice_index_or l.fn.clients.items k c) (slice_index_or l.fn.passes.items k p);
}
