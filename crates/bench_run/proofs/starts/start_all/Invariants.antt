-- The jobs that were started so far, none refused.
use Rattle.std.proofs.Common.{◌≡◌, ◌++◌, map}
use Rattle.bench_run.specs.JobSteps.{view_of}
use Rattle.bench_run.specs.Drive.{AreStarted}
use Rattle.bench_run.proofs.starts.start_all.Given as goal

abbrev pub invariant-loop-parts : goal.invariant-loop-parts
invariant-loop-parts g l = record {
  came : l.fn.replicas.items ≡ l.yielded ++ l.parts-iterator.rest.items;
  started : AreStarted (map view_of l.yielded) l.fn.crew l.crew;
}
