use Rattle.std.proofs.Common.{◌≡◌, take}
use Rattle.live_score.specs.Trees.{greatest}
use Rattle.live_score.proofs.places.leaf.greatest_among.Given as goal

abbrev pub invariant-loop-place : goal.invariant-loop-place
invariant-loop-place l = l.greatest ≡ greatest l.c (take l.place-index l.places)
