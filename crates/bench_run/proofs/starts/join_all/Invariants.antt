-- The jobs that are left, and all else as it was.
use Rattle.std.proofs.Common.{◌≡◌, ◌+◌, length}
use Rattle.bench_run.proofs.starts.join_all.Given as goal

abbrev pub invariant-loop : goal.invariant-loop
invariant-loop g l = record {
  left : length l.crew.jobs + l.counter ≡ l.started;
  same : l.crew ≡ record l.fn.crew { jobs = l.crew.jobs };
}
