use Rattle.std.proofs.Common.{◌/◌, ◌<◌, ◌≤◌, arith}
use Rattle.std.proofs.Math.Nat.{one-le-pow}
use Rattle.tick_axis.proofs.Rounds.{digit_fits, digit_positive, power_within}
use Rattle.tick_axis.proofs.round_number.Goals as goal
use Rattle.tick_axis.proofs.round_number.Goals.{in-0, in-1, in_default}

pub overflow_mul-result : goal.overflow_mul-result
overflow_mul-result c =
    let digit : c.match-place-rem3.digit ≤ 5 = elim c.match-place-rem3.branch [ in-0 w ↦ omega arith | in-1 w ↦ omega arith | in_default w ↦ omega arith ] in
    digit_fits c.match-place-rem3.digit c.pow.result digit (omega (arith, c.pow.ensures, power_within c.args.place c.requires))

pub returns-clause-positive : goal.returns-clause-positive
returns-clause-positive c =
    let digit : 0 < c.match-place-rem3.digit = elim c.match-place-rem3.branch [ in-0 w ↦ omega arith | in-1 w ↦ omega arith | in_default w ↦ omega arith ] in
    digit_positive c.match-place-rem3.digit c.pow.result digit (omega (arith, c.pow.ensures, one-le-pow (c.args.place / 3) 10))
