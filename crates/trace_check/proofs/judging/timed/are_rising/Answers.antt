use Rattle.std.proofs.Common.{◌≡◌, ◌<◌, Bool, ltb, ltb-true, lt-ltb, rules}
use Rattle.std.specs.List.{IsAllAdjacentAnswer}
use Rattle.std.proofs.lemmas.Fn.{always_returns_same}
use Rattle.stale_model.specs.declared.store.Entry.{Entry}
use Rattle.trace_check.proofs.Neighbours.{neighbours_tell, rises_by_next, next_by_rises}
use Rattle.trace_check.proofs.judging.timed.are_rising.Goals as goal

pub returns : goal.returns
returns c =
    let rises : Entry → Entry → Bool = λ x y. ltb x.start y.start in
    let answer : IsAllAdjacentAnswer (λ x y b. b ≡ rises x y) c.args.entries.now c.is_sorted_by.result =
    c.is_sorted_by.ensures.cases rises (always_returns_same _ _ _ (λ a r f k. search rules)) in
    let tells = neighbours_tell rises (λ x y. x.start < y.start) (λ x y. ltb-true x.start y.start) (λ x y. lt-ltb x.start y.start) c.args.entries.now c.is_sorted_by.result answer in
    (λ t. rises_by_next (λ (x : Entry). x.start) c.args.entries.now (tells.0 t), λ h. tells.1 (next_by_rises (λ (x : Entry). x.start) c.args.entries.now h))
