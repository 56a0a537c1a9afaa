use Rattle.std.proofs.Common.{arith}
use Rattle.delta_score.proofs.LeastBounds.{low-le_high, least_where_met}
use Rattle.delta_score.proofs.least.least_between.Goals as goal

pub narrowed-between-requires-in-loop-between-clause-within :
    goal.narrowed-between-requires-in-loop-between-clause-within
narrowed-between-requires-in-loop-between-clause-within c =
    let le = low-le_high _ _ c.narrowed-between.ensures.bounds in
    omega arith

pub returns-clause-least : goal.returns-clause-least
returns-clause-least c = least_where_met _ _ c.loop-between.invariant.0 c.loop-between-test.false
