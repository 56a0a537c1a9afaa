use Rattle.std.proofs.Common.{ap, ◌∙◌, arith}
use Rattle.ticket_clock.specs.Seats.{times}
use Rattle.post_box.proofs.Steps.{cuts_sender}
use Rattle.post_box.proofs.cut.Goals as goal

pub another-requires-clause-rule : goal.another-requires-clause-rule
another-requires-clause-rule g c =
    let i = c.whole.invariant in let numbers = ap (λ p. p.numbers) c.whole.view_is in let budget = ap (λ p. p.budget) c.whole.view_is in
    cuts_sender _ _ _ _ _ (ap (λ v. v.live) i.1) (ap (λ v. v.is_whole) i.1) (ap (λ l. times g.G.Picked.number l) numbers ∙ c.requires.new) (omega (arith, budget, c.requires.budget))
