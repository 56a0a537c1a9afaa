use Rattle.std.proofs.Common.{◌∙◌, sym}
use Rattle.lbt_epochs.proofs.ListsKept.{first_left, next_left, standing_within, no_second}
use Rattle.lbt_epochs.proofs.lists.Lists.late_reads.Goals as goal

pub after-requires : goal.after-requires
after-requires c =
    standing_within _ _ _ _ 0 c.in-Some.first c.self.invariant.taken c.self.invariant.reads
    (sym (first_left _ _ _ _ c.self.invariant.taken c.self.invariant.reads) ∙ (sym c.first.ensures ∙ c.in-Some.is))

pub returns-in-Some-clause-first : goal.returns-in-Some-clause-first
returns-in-Some-clause-first c = rw (← c.self.view_is)
    (sym c.in-Some.is ∙ (c.first.ensures ∙ first_left _ _ _ _ c.self.invariant.taken c.self.invariant.reads))

pub returns-in-Some-clause-second : goal.returns-in-Some-clause-second
returns-in-Some-clause-second c =
    rw (← c.self.view_is)
    (c.after.ensures ∙ next_left _ _ _ _ 0 c.in-Some.first c.self.invariant.taken c.self.invariant.reads
    (sym (first_left _ _ _ _ c.self.invariant.taken c.self.invariant.reads) ∙ (sym c.first.ensures ∙ c.in-Some.is)))

pub returns-in-None-clause-first : goal.returns-in-None-clause-first
returns-in-None-clause-first c = rw (← c.self.view_is)
    (sym c.in-None.is ∙ (c.first.ensures ∙ first_left _ _ _ _ c.self.invariant.taken c.self.invariant.reads))

pub returns-in-None-clause-second : goal.returns-in-None-clause-second
returns-in-None-clause-second c =
    rw (← c.self.view_is)
    (sym (no_second _ (sym (first_left _ _ _ _ c.self.invariant.taken c.self.invariant.reads) ∙ (sym c.first.ensures ∙ c.in-None.is))))
