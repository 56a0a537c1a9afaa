use Rattle.std.proofs.Common.{◌∙◌, ap, sym, arith, [], ◌∷◌}
use Rattle.post_box.proofs.Steps.{sends, has_room}
use Rattle.post_box.proofs.PostBox.send.Goals as goal

pub push_as-requires-clause-rule : goal.push_as-requires-clause-rule
push_as-requires-clause-rule g c =
    let number = ap (λ p. p.number) c.pass.view_is in let budget = ap (λ p. p.budget) c.pass.view_is in
    (sends _ _ _ _ _ (ap (λ v. v.live) c.pass.invariant.1) (ap (λ v. v.held) c.pass.invariant.1 ∙ ap (λ n. n ∷ []) (number ∙ sym c.requires.sender)) (omega (arith, budget, c.requires.budget)), has_room _ _ _)
