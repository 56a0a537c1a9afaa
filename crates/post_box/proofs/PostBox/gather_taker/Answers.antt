use Rattle.std.proofs.Common.{subst, ap, ◌∙◌}
use Rattle.crossbeam_queue.specs.Passes.{view}
use Rattle.post_box.specs.Rule.{Tells}
use Rattle.post_box.proofs.Steps.{gathers_taker}
use Rattle.post_box.proofs.Told.{tells, prefixes_of}
use Rattle.post_box.proofs.PostBox.gather_taker.Goals as goal

pub absorb-requires-clause-rule : goal.absorb-requires-clause-rule
absorb-requires-clause-rule g c =
    let p = c.pass.invariant.1 in gathers_taker _ _ _ _ _ (ap (λ v. v.live) c.whole.invariant.1) (ap (λ v. v.is_whole) p) (ap (λ v. v.takes) p) (ap (λ v. v.held) p) (ap (λ v. v.budget) p)

pub learn_as-requires-clause-rule : goal.learn_as-requires-clause-rule
learn_as-requires-clause-rule g c = tells _ _ _ (ap (λ v. v.live) c.absorb.ensures.rule ∙ ap (λ v. v.live) c.whole.invariant.1)

pub returns-clause-taken : goal.returns-clause-taken
returns-clause-taken g c =
    let told = c.learn_as.ensures.rule in
    rw (← c.whole.view_is, ← c.pass.view_is) (prefixes_of g.M.Letter.from (view c.whole.inside.pass) (view c.pass.inside.pass) told.0 (subst (λ v. Tells g.M.Letter.from v told.0) c.absorb.ensures.rule told.1))
