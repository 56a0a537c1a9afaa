use Rattle.both_sides.proofs.Pass.{AreGreatest}
use Rattle.both_sides.proofs.gaps.greatest_of.Given as goal

abbrev pub invariant-loop-span : goal.invariant-loop-span
invariant-loop-span l = AreGreatest l.spans l.span-index l.greatest_start l.gap
