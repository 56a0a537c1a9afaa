use Rattle.std.proofs.Common.{◌≡◌, ◌+◌}
use Rattle.post_box.proofs.tests.send_all.Given as goal

abbrev pub invariant-loop-before : goal.invariant-loop-before
invariant-loop-before g l = (l.pass.box ≡ l.fn.pass.box) × (l.pass.number ≡ l.fn.pass.number) × (l.pass.budget + l.before ≡ l.fn.pass.budget)
