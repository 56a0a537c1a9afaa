-- The taker stays one of its box.
use Rattle.std.proofs.Common.{◌≡◌}
use Rattle.bench_run.proofs.tests.replies_in.Given as goal

abbrev pub invariant-loop : goal.invariant-loop
invariant-loop g l = l.taker.box ≡ l.fn.taker.box
