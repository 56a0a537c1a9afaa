use Rattle.std.proofs.Common.{take}
use Rattle.std.specs.List.{range_with_len}
use Rattle.lbt_epochs.specs.Links.{IsRing}
use Rattle.lbt_epochs.proofs.links.Links.of.Given as goal

abbrev pub invariant-loop-at : goal.invariant-loop-at
invariant-loop-at l = IsRing l.end (range_with_len 0 l.end) (take l.at-index l.order) l.links
