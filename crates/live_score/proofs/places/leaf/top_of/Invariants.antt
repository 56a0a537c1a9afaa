use Rattle.std.proofs.Common.{◌≡◌, take}
use Rattle.live_score.specs.Trees.{top_of}
use Rattle.live_score.proofs.places.leaf.top_of.Given as goal

abbrev pub invariant-loop-place : goal.invariant-loop-place
invariant-loop-place l = l.top ≡ top_of (take l.place-index l.places)
