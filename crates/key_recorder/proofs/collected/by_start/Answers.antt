-- The sort is by the start, and stable.
use Rattle.std.proofs.Common.{rules}
use Rattle.std.proofs.lemmas.List.Sorted.{IsNonDecreasingBy-from_sort_by_key, answers_always}
use Rattle.stale_model.specs.declared.store.Entry.{Entry}
use Rattle.key_recorder.proofs.collected.by_start.Goals as goal

pub returns : goal.returns
returns c = record {
  same = search rules;
  by_start = IsNonDecreasingBy-from_sort_by_key (λ (e : Entry). e.start) _ c.in_ok-sort_by_key.ensures.sorted (λ a r q k. search rules);
  stable = c.in_ok-sort_by_key.ensures.stable (λ (e : Entry). e.start) (answers_always _ _ _ (λ f a r g h. search rules));
}
