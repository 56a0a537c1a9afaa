use Rattle.std.proofs.Common.{◌≡◌, ◌<◌, Bool, ltb, ltb-true, lt-ltb, rules}
use Rattle.std.specs.List.{IsAllAdjacentAnswer}
use Rattle.std.proofs.lemmas.Fn.{always_returns_same}
use Rattle.stale_model.specs.declared.store.Entry.{Entry}
use Rattle.trace_check.proofs.Neighbours.{neighbours_tell}
use Rattle.trace_check.proofs.judging.timed.are_one_by_one.Goals as goal

pub returns : goal.returns
returns c =
    let follows : Entry → Entry → Bool = λ x y. ltb x.finish y.start in
    let answer : IsAllAdjacentAnswer (λ x y b. b ≡ follows x y) c.args.own.now c.is_sorted_by.result =
    c.is_sorted_by.ensures.cases follows (always_returns_same _ _ _ (λ a r f k. search rules)) in
    neighbours_tell follows (λ x y. x.finish < y.start) (λ x y. ltb-true x.finish y.start) (λ x y. lt-ltb x.finish y.start) c.args.own.now c.is_sorted_by.result answer
