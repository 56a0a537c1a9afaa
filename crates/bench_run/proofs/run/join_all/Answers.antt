use Rattle.std.proofs.Common.{◌≡◌, ℕ, ◌+◌, [], length, drop, refl, sym, ◌∙◌, ap, arith}
use Rattle.std.proofs.lemmas.List.{length-drop, drop_all, length_push}
use Rattle.bench_run.proofs.Joined.{others_from, one_more_end, crew_after}
use Rattle.bench_run.proofs.run.join_all.Goals as goal

pub loop-replica-init : goal.loop-replica-init
loop-replica-init g c = record {
  rest = refl;
  counted = c.requires.none;
  room = c.requires.room;
  each = λ k j e low. absurd (let none = c.requires.none in omega arith);
}

pub join-requires-after_bounds : goal.join-requires-after_bounds
join-requires-after_bounds g c κs within =
    let i = c.loop-replica.invariant in
    let long = length-drop c.loop-replica._replica c.args.crew.now.jobs in
    let is = ap (λ x. length x.jobs) i.rest in
    let all = c.requires.jobs in
    grind arith

pub push_reserved-requires : goal.push_reserved-requires
push_reserved-requires g c = let i = c.loop-replica.invariant in let room = i.room in let many = i.counted in grind arith

pub loop-replica-preserved : goal.loop-replica-preserved
loop-replica-preserved g c =
    let i = c.loop-replica.invariant in
    let joined = c.join.ensures in
    let pushed = c.push_reserved.ensures in
    let was = ap (λ x. x.jobs) i.rest in
    let first = sym was ∙ joined.first in
    let long : length c.loop-replica.ends.items ≡ c.loop-replica._replica = let same = c.loop-replica.ends.ok.0 in let many = i.counted in omega arith in
    record {
      rest = crew_after c.args.crew.now c.loop-replica.crew c.join.new.self (drop c.loop-replica._replica c.args.crew.now.jobs) (drop (c.loop-replica._replica + 1) c.args.crew.now.jobs) i.rest joined.same
          (others_from c.args.crew.now.jobs c.loop-replica._replica joined.job c.join.new.self.jobs first);
      counted = let long = length_push c.loop-replica.ends.items c.join.result in let items = ap (λ xs. length xs) pushed.items in let many = i.counted in omega arith;
      room = let same = pushed.capacity in let room = i.room in omega arith;
      each = λ k j e low. rw pushed.items (one_more_end c.args.crew.now.jobs c.loop-replica.ends.items joined.job c.join.result c.join.new.self.jobs (ap (λ (n : ℕ). drop n c.args.crew.now.jobs) long ∙ first) joined.ended (λ k j e low. i.each k j e (let same = c.loop-replica.ends.ok.0 in omega arith)) k j e (let long = ap (λ xs. length xs) pushed.items in let same = c.push_reserved.new.self.ok.0 in omega arith));
    }

pub returns-clause-crew : goal.returns-clause-crew
returns-clause-crew g c =
    let i = c.loop-replica.invariant in
    let all : drop c.loop-replica._replica c.args.crew.now.jobs ≡ [] = drop_all c.loop-replica._replica c.args.crew.now.jobs (let many = c.requires.jobs in grind arith) in
    i.rest ∙ ap (λ js. record c.args.crew.now { jobs = js }) all

pub returns-clause-as_many : goal.returns-clause-as_many
returns-clause-as_many g c = let many = c.loop-replica.invariant.counted in grind arith

pub returns-clause-each : goal.returns-clause-each
returns-clause-each g c k j e low = c.loop-replica.invariant.each k j e (let many = c.loop-replica.invariant.counted in grind arith)
