-- The client has made some calls and recorded each of them, and can make the rest.
use Rattle.std.proofs.Common.{length}
use Rattle.bench_run.specs.Runs.{IsReadyRunner}
use Rattle.bench_run.proofs.ClientRuns.{IsRunSoFar}
use Rattle.bench_run.proofs.runner.run_one.Given as goal

abbrev pub invariant-loop-runner : goal.invariant-loop-runner
invariant-loop-runner g l = record {
  ready : IsReadyRunner l.clock l.recorder l.runner;
  so_far : IsRunSoFar l.fn.runner l.runner;
}

abbrev pub decreases-loop-runner : goal.decreases-loop-runner
decreases-loop-runner g l = length l.runner.client.left
