use Rattle.std.proofs.Common.{rules}
use Rattle.std.proofs.lemmas.List.Sorted.{IsNonDecreasingBy-from_sort_by_key}
use Rattle.both_sides.specs.Gaps.{rank_of}
use Rattle.both_sides.proofs.gaps.spans_by_rank.Goals as goal

pub returns : goal.returns
returns c = record {
  each_once = search rules;
  by_rank = IsNonDecreasingBy-from_sort_by_key rank_of _ c.in_ok-sort_by_key.ensures.sorted (λ a r q k. search rules);
}
