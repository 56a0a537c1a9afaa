use Rattle.std.proofs.Common.{◌≡◌, ◌<◌, ℕ, List, ltb, ltb-true, lt-ltb, sym, subst, rules}
use Rattle.std.specs.List.{IsAllAdjacentAnswer}
use Rattle.std.specs.List.Sorted.{IsPermutation, IsSorted}
use Rattle.std.specs.Ordering.{nat_cmp}
use Rattle.std.proofs.lemmas.Fn.{always_returns_same}
use Rattle.trace_check.proofs.Neighbours.{neighbours_tell, once_by_next, next_by_once}
use Rattle.trace_check.proofs.judging.timed.are_distinct.Goals as goal

pub returns : goal.returns
returns c =
    let sorted = c.deref.result.now in
    let same = sym c.deref.ensures.value in
    let order : IsPermutation c.args.tickets.items sorted = subst (λ (ns : List ℕ). IsPermutation c.args.tickets.items ns) same c.sort_unstable.ensures.permutation in
    let up : IsSorted nat_cmp sorted = subst (λ (ns : List ℕ). IsSorted nat_cmp ns) same c.sort_unstable.ensures.sorted in
    let answer : IsAllAdjacentAnswer (λ x y b. b ≡ ltb x y) sorted c.is_sorted_by.result =
    c.is_sorted_by.ensures.cases ltb (always_returns_same _ _ _ (λ a r f k. search rules)) in
    let tells = neighbours_tell ltb (λ x y. x < y) ltb-true lt-ltb sorted c.is_sorted_by.result answer in
    (λ t. once_by_next c.args.tickets.items sorted order (tells.0 t), λ h. tells.1 (next_by_once c.args.tickets.items sorted order up h))
