use Rattle.std.proofs.Common.{◌∙◌}
use Rattle.lbt_epochs.proofs.ListsKept.{first_left}
use Rattle.lbt_epochs.proofs.lists.Lists.first_candidate.Goals as goal

pub returns : goal.returns
returns c = rw (← c.self.view_is) (c.first.ensures ∙ first_left _ _ _ _ c.self.invariant.taken c.self.invariant.candidates)
