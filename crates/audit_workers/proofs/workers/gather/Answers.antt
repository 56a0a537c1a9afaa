use Rattle.std.proofs.Common.{arith, ap, ◌∙◌, ◌≡◌, ◌+◌, ◌*◌, ℕ, suc-mul, add-one, length}
use Rattle.std.proofs.lemmas.Grind.{common_steps}
use Rattle.audit_workers.proofs.workers.gather.Goals as goal

pub loop-one-preserved : goal.loop-one-preserved
loop-one-preserved c =
    let taken = c.take_in.ensures in
    let before = c.loop-one.invariant in
    let keys = length c.args.history.now.keys in
    let fewer : length c.loop-one.done.items ≡ length c.pop.new.self.items + 1 = grind (arith, common_steps) in
    let (calls, count, gathered) = before.gathered in
    record {
      own = taken.own;
      many = taken.many;
      left = let one = suc-mul (length c.pop.new.self.items) (keys + 1) in
          let same = ap (λ (n : ℕ). n * (keys + 1)) (fewer ∙ add-one (length c.pop.new.self.items)) in
          omega (arith, taken.left, before.left, one, same);
      gathered = (calls + 1, omega (arith, count, fewer), taken.gathered calls gathered);
      done = λ i d less. let is = before.done i d (omega (arith, fewer)) in let popped = c.pop.ensures.items in grind (arith, common_steps, is, popped);
    }
