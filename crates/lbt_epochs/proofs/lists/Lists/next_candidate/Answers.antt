use Rattle.std.proofs.Common.{◌∙◌}
use Rattle.model_laws.proofs.Tests.{contains_has}
use Rattle.lbt_epochs.proofs.ListsKept.{node_within, next_left}
use Rattle.lbt_epochs.proofs.lists.Lists.next_candidate.Goals as goal

pub after-requires : goal.after-requires
after-requires c =
    let h = rw (← c.self.view_is) at c.requires in
    node_within _ _ _ _ c.args.at c.self.invariant.taken c.self.invariant.candidates (contains_has _ _ h)

pub returns : goal.returns
returns c = rw (← c.self.view_is) (λ i h. c.after.ensures ∙ next_left _ _ _ _ i c.args.at c.self.invariant.taken c.self.invariant.candidates h)
