-- A job that began so, after the notes that it has taken.
use Rattle.bench_run.specs.JobSteps.{view_of}
use Rattle.bench_run.proofs.Served.{IsServing}
use Rattle.bench_run.proofs.job.JobParts.run.Given as goal

abbrev pub invariant-loop : goal.invariant-loop
invariant-loop g l = IsServing (view_of l.fn.self) l.self
