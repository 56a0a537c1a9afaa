use Rattle.std.proofs.Common.{◌≡◌, length, take}
use Rattle.lbt_epochs.specs.Lists.{with_placed}
use Rattle.lbt_epochs.proofs.candidates.undo_to.Given as goal

abbrev pub invariant-loop-lists : goal.invariant-loop-lists
invariant-loop-lists l = record { same : l.lists ≡ with_placed l.fn.lists l.lists.placed; front : take l.count l.lists.placed ≡ take l.count l.fn.lists.placed }

abbrev pub decreases-loop-lists : goal.decreases-loop-lists
decreases-loop-lists l = length l.lists.placed
