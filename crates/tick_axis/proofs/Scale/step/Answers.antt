use Rattle.std.proofs.Common.{◌≤◌, ap, ◌∙◌, sym, arith}
use Rattle.tick_axis.specs.Marks.{mark_count, round_number}
use Rattle.tick_axis.proofs.Stepping.{step_at}
use Rattle.tick_axis.proofs.Scale.step.Goals as goal

pub returns-clause-exact : goal.returns-clause-exact
returns-clause-exact c =
    let few : mark_count c.args.self.now (round_number c.loop-place.place) ≤ 10 =
    omega (arith, c.mark_count.ensures, c.loop-place-test.false, ap (λ step. mark_count c.args.self.now step) c.round_number.ensures.exact) in
    c.round_number-2.ensures.exact ∙ sym (step_at c.args.self.now c.loop-place.place c.loop-place.invariant.within c.loop-place.invariant.many few)
