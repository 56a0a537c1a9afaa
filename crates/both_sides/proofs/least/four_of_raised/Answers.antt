use Rattle.std.proofs.Common.{◌≡◌, ℕ, ◌+◌, ◌*◌, arith}
use Rattle.both_sides.proofs.Raising.{raised_differ}
use Rattle.both_sides.proofs.least.four_of_raised.Goals as goal

twice : (g : ℕ) → g + g ≡ 2 * g
twice g = omega arith

pub four_at-requires-clause-differ : goal.four_at-requires-clause-differ
four_at-requires-clause-differ c = rw (c.deref.ensures.value, c.in-Ok.ensures) (raised_differ _ _ c.requires.differ)

pub four_at-requires-clause-conflict : goal.four_at-requires-clause-conflict
four_at-requires-clause-conflict c = rw (c.deref.ensures.value, c.in-Ok.ensures) (rw (twice c.args.g) at c.requires.conflict)

pub returns : goal.returns
returns c = rw (twice c.args.g) (rw (c.deref.ensures.value, c.in-Ok.ensures) at c.four_at.ensures)
