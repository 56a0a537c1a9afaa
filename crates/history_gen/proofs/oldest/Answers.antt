use Rattle.std.proofs.Common.{◌<◌, ◌≤◌, length, arith}
use Rattle.history_gen.proofs.LastWrites.{length_within, length_above}
use Rattle.history_gen.proofs.oldest.Goals as goal

pub returns-then-last-eq0-clause-place : goal.returns-then-last-eq0-clause-place
returns-then-last-eq0-clause-place c = λ values are.
    let within : length values ≤ 1 = length_within values c.args.last 1 are (omega arith) c.if-last-eq0.true in omega arith

pub returns-then-last-eq0-2-clause-place : goal.returns-then-last-eq0-2-clause-place
returns-then-last-eq0-2-clause-place c = λ values are.
    let above : 1 < length values = length_above values c.args.last 1 are (omega arith) c.if-last-eq0.false in
    let within : length values ≤ 2 = length_within values c.args.last 2 are (omega arith) c.if-last-eq0-2.true in omega arith

pub returns-else-last-eq0-2-clause-place : goal.returns-else-last-eq0-2-clause-place
returns-else-last-eq0-2-clause-place c = λ values are.
    let above : 2 < length values = length_above values c.args.last 2 are (omega arith) c.if-last-eq0-2.false in omega arith
