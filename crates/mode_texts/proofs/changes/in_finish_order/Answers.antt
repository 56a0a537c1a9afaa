-- The sort is by the finish, and stable.
use Rattle.std.proofs.Common.{rules}
use Rattle.std.proofs.lemmas.List.Sorted.{IsNonDecreasingBy-from_sort_by_key, answers_always}
use Rattle.mode_texts.proofs.Finishing.{capped_finish, sorted_copy}
use Rattle.mode_texts.proofs.changes.in_finish_order.Goals as goal

pub returns : goal.returns
returns c =
    let sort = c.in_ok-sort_by_key.ensures in
    let up = IsNonDecreasingBy-from_sort_by_key capped_finish _ sort.sorted (λ a r q k. search rules) in
    let stable = sort.stable capped_finish (answers_always _ _ _ (λ f a r g h. search rules)) in
    sorted_copy c.args.ops.now c.in_ok-sorted.sorted.items c.sort_by_key.new.self.items c.in_ok-sorted.ensures.items c.requires.finishes c.requires.rising sort.permutation up stable
