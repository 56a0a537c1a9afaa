use Rattle.std.proofs.Common.{ap, ◌∙◌}
use Rattle.crossbeam_queue.specs.Passes.{view}
use Rattle.post_box.proofs.Steps.{takes, empties}
use Rattle.post_box.proofs.Told.{tells, all_taken}
use Rattle.post_box.proofs.PostBox.rest.Goals as goal

pub pop_as-requires-clause-rule : goal.pop_as-requires-clause-rule
pop_as-requires-clause-rule g c = let live = ap (λ v. v.live) c.whole.invariant.1 in (takes _ _ _ live (ap (λ p. p.takes) c.whole.view_is ∙ c.requires.taker), tells _ _ _ live)

pub another-requires-clause-rule : goal.another-requires-clause-rule
another-requires-clause-rule g c = empties _ _ _ (ap (λ v. v.live) c.in-None.ensures.rule.0 ∙ ap (λ v. v.live) c.whole.invariant.1)

pub returns-in-None-clause-all : goal.returns-in-None-clause-all
returns-in-None-clause-all g c =
    let given = ap (λ p. p.numbers) c.whole.view_is in let held = ap (λ p. p.gathered) c.whole.view_is in
    rw (← c.whole.view_is) (all_taken g.M.Letter.from (view c.whole.inside.pass) (ap (λ v. v.is_whole) c.whole.invariant.1) (ap (λ p. p.takes) c.whole.view_is ∙ c.requires.taker) (rw (held, given) c.requires.senders) c.in-None.ensures.rule.1)
