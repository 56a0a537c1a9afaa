use Rattle.std.proofs.Common.{ap, ◌∙◌}
use Rattle.post_box.proofs.Steps.{cuts_taker}
use Rattle.post_box.proofs.PostBox.split_taker.Goals as goal

pub another-requires-clause-rule : goal.another-requires-clause-rule
another-requires-clause-rule g c = let i = c.whole.invariant in cuts_taker _ _ _ (ap (λ v. v.live) i.1) (i.2 (ap (λ p. p.split) c.whole.view_is ∙ c.requires.new))
