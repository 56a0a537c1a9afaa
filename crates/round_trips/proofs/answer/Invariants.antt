use Rattle.std.proofs.Common.{◌≡◌, ◌+◌, ◌≤◌}
use Rattle.round_trips.proofs.answer.Given as goal

abbrev pub invariant-loop-k : goal.invariant-loop-k
invariant-loop-k g l =
    (l.desk.sender.box ≡ l.fn.desk.sender.box) × (l.desk.sender.number ≡ 0) × (100000 ≤ l.desk.sender.budget + l.k) × (l.desk.taker.box ≡ l.fn.desk.taker.box)
