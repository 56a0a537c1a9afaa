use Rattle.std.proofs.Common.{◌≡◌, ℕ, ◌<◌, ◌≤◌, drop, slice_index_or, vec_len, vec_capacity}
use Rattle.bench_run.specs.declared.job.BenchEnd.{BenchEnd}
use Rattle.bench_run.specs.Jobs.{JobView, IsServedOut}
use Rattle.bench_run.proofs.run.join_all.Given as goal

abbrev pub invariant-loop-replica : goal.invariant-loop-replica
invariant-loop-replica g l = record {
  rest : l.crew ≡ record l.fn.crew { jobs = drop l._replica l.fn.crew.jobs };
  counted : vec_len l.ends ≡ l._replica;
  room : l.replicas ≤ vec_capacity l.ends;
  each : (k : ℕ) (j : JobView) (e : BenchEnd) → k < vec_len l.ends → IsServedOut (slice_index_or l.fn.crew.jobs k j) (slice_index_or l.ends.items k e);
}
