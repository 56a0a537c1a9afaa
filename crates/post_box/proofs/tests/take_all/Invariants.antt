use Rattle.std.proofs.Common.{◌≡◌}
use Rattle.post_box.proofs.tests.take_all.Given as goal

abbrev pub invariant-loop : goal.invariant-loop
invariant-loop g l = (l.pass.box ≡ l.fn.pass.box) × (l.pass.taken ≡ l.letters.items)
