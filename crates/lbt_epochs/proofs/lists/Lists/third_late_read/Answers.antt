use Rattle.std.proofs.Common.{◌∙◌, sym, arith}
use Rattle.lbt_epochs.proofs.ListsKept.{first_left, next_left, none_later}
use Rattle.lbt_epochs.proofs.lists.Lists.third_late_read.Goals as goal

pub returns-in_err-first : goal.returns-in_err-first
returns-in_err-first c =
    let first = first_left _ _ _ _ c.self.invariant.taken c.self.invariant.reads in
    rw (← c.self.view_is)
    (c.from_residual.ensures ∙ none_later _ 0 2 (omega arith) (sym (c.first.ensures ∙ first) ∙ c.in_err-first.was))

pub returns-in_err-second : goal.returns-in_err-second
returns-in_err-second c =
    let first = first_left _ _ _ _ c.self.invariant.taken c.self.invariant.reads in
    let second = next_left _ _ _ _ 0 c.in_ok-first.first c.self.invariant.taken c.self.invariant.reads (sym (c.first.ensures ∙ first) ∙ c.in_ok-first.was) in
    rw (← c.self.view_is)
    (c.from_residual-in_err-second.ensures ∙ none_later _ 1 2 (omega arith) (sym (c.after.ensures ∙ second) ∙ c.in_err-second.was))

pub returns : goal.returns
returns c =
    let first = first_left _ _ _ _ c.self.invariant.taken c.self.invariant.reads in
    let second = next_left _ _ _ _ 0 c.in_ok-first.first c.self.invariant.taken c.self.invariant.reads (sym (c.first.ensures ∙ first) ∙ c.in_ok-first.was) in
    rw (← c.self.view_is)
    (c.after-2.ensures ∙ next_left _ _ _ _ 1 c.in_ok-second.second c.self.invariant.taken c.self.invariant.reads (sym (c.after.ensures ∙ second) ∙ c.in_ok-second.was))
