use Rattle.std.proofs.Common.{ℕ, rules}
use Rattle.std.proofs.lemmas.List.Sorted.{IsNonDecreasingBy-from_sort_by_key}
use Rattle.std.proofs.lemmas.Result.{IfOk-weaker}
use Rattle.stale_model.specs.declared.KeyOps.{KeyOps}
use Rattle.history_csv.proofs.parts.in_order.Goals as goal

pub returns : goal.returns
returns c =
    let sorted = c.sort_unstable_by_key.new.self.items in
    let up = IsNonDecreasingBy-from_sort_by_key (λ (key : ℕ × KeyOps). key.0) sorted c.sort_unstable_by_key.ensures.sorted (λ a r q k. search rules) in
    IfOk-weaker c.without_records.result _ _ (λ keys are. (sorted, c.sort_unstable_by_key.ensures.permutation, up, are)) c.without_records.ensures
