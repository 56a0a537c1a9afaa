use Rattle.std.proofs.Common.{rules}
use Rattle.std.proofs.lemmas.List.Sorted.{IsNonDecreasingBy-from_sort_by_key}
use Rattle.stale_model.specs.declared.Cluster.{Cluster}
use Rattle.delta_score.proofs.conflicts.in_finish_order.Goals as goal

pub returns : goal.returns
returns c = record {
  each_once = search rules;
  by_finish = IsNonDecreasingBy-from_sort_by_key (λ (x : Cluster). x.f) _ c.in_ok-sort_by_key.ensures.sorted (λ a r q k. search rules);
}
