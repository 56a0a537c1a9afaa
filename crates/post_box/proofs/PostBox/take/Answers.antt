use Rattle.std.proofs.Common.{◌∙◌, ap}
use Rattle.crossbeam_queue.specs.Passes.{view}
use Rattle.post_box.proofs.Steps.{takes, empties}
use Rattle.post_box.proofs.Told.{tells, within_room}
use Rattle.post_box.proofs.PostBox.take.Goals as goal

pub pop_as-requires-clause-rule : goal.pop_as-requires-clause-rule
pop_as-requires-clause-rule g c = let live = ap (λ v. v.live) c.pass.invariant.1 in (takes _ _ _ live (ap (λ v. v.takes) c.pass.invariant.1), tells _ _ _ live)

pub another-requires-clause-rule : goal.another-requires-clause-rule
another-requires-clause-rule g c = empties _ _ _ (ap (λ v. v.live) c.in-None.ensures.rule.0 ∙ ap (λ v. v.live) c.pass.invariant.1)

pub returns-in-None-clause-empty : goal.returns-in-None-clause-empty
returns-in-None-clause-empty g c =
    rw (← c.pass.view_is) (within_room g.M.Letter.from (view c.pass.inside.pass) (ap (λ v. v.live) c.pass.invariant.1) (ap (λ v. v.takes) c.pass.invariant.1) c.in-None.ensures.rule.1)
