use Rattle.std.proofs.Common.{◌≡◌, ◌+◌, ◌-◌, ◌*◌, ◌/◌, map, ap, ◌∙◌, arith}
use Rattle.std.specs.List.{range_with_len}
use Rattle.std.specs.Int.{div_ceil}
use Rattle.tick_axis.proofs.Multiples.{ceil_le}
use Rattle.tick_axis.proofs.Marking.{none_so_far, one_more, all_marks}
use Rattle.tick_axis.proofs.Scale.marks.Goals as goal
use Rattle.tick_axis.proofs.Scale.marks.Goals.{else-loop-number-test, then-loop-number-test+in_ok-push+else-number-number-end}

pub loop-number-init : goal.loop-number-init
loop-number-init c = record {
  started = omega (arith, c.div_ceil-number.ensures);
  within = omega (arith, c.div_ceil-number.ensures, ceil_le c.args.self.now.first c.args.self.now.last c.step-step.result c.step-step.ensures.positive c.requires.ordered);
  so_far = none_so_far c.new-marks.result.items c.step-step.result (div_ceil c.args.self.now.first c.step-step.result) c.div_ceil-number.result c.div_ceil-number.ensures c.new-marks.ensures.items;
}

pub loop-number-preserved : goal.loop-number-preserved
loop-number-preserved c = record {
  started = omega (arith, c.loop-number.invariant.started);
  within = omega arith;
  so_far = one_more c.loop-number.marks.items c.push.new.self.items c.step-step.result (div_ceil c.args.self.now.first c.step-step.result) c.loop-number.number
      c.loop-number.invariant.started c.loop-number.invariant.so_far c.in_ok-push.ensures.items;
}

pub returns : goal.returns
returns c = elim c.loop-number-test.branch [
  | else-loop-number-test w ↦
      let last : c.loop-number.number ≡ c.args.self.now.last / c.step-step.result + 1 = omega (arith, c.loop-number.invariant.within, w.loop-number-test.false) in
      ap (λ marks. marks.items) w.marks-is ∙ all_marks c.args.self.now c.loop-number.marks.items c.step-step.result c.loop-number.number c.step-step.ensures.exact last c.loop-number.invariant.so_far
  | then-loop-number-test+in_ok-push+else-number-number-end w ↦
      let last : c.loop-number.number + 1 ≡ c.args.self.now.last / c.step-step.result + 1 = omega (arith, w.loop-number-test.true) in
      let so_far : w.push.new.self.items ≡ map (λ n. n * c.step-step.result) (range_with_len (div_ceil c.args.self.now.first c.step-step.result) (c.loop-number.number + 1 - div_ceil c.args.self.now.first c.step-step.result)) =
      one_more c.loop-number.marks.items w.push.new.self.items c.step-step.result (div_ceil c.args.self.now.first c.step-step.result) c.loop-number.number
      c.loop-number.invariant.started c.loop-number.invariant.so_far w.in_ok-push.ensures.items in
      ap (λ marks. marks.items) w.marks-is ∙ all_marks c.args.self.now w.push.new.self.items c.step-step.result (c.loop-number.number + 1) c.step-step.ensures.exact last so_far
]
