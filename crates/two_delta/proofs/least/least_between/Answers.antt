use Rattle.std.proofs.Common.{arith}
use Rattle.two_delta.proofs.LeastListed.{least_is_high}
use Rattle.two_delta.proofs.least.least_between.Goals as goal

pub returns : goal.returns
returns c = least_is_high c.args.clusters.now c.loop-low.low c.loop-low.high c.loop-low.invariant.bounds (omega arith)
