use Rattle.std.proofs.Common.{◌≤◌}
use Rattle.std.proofs.lemmas.List.Sorted.{All-permutation, IsPermutation-sym}
use Rattle.stale_model.specs.declared.Cluster.{Cluster}
use Rattle.stale_model.proofs.Sorted.{permuted_no_repeats}
use Rattle.delta_score.proofs.FinishOrders.{bounds_permuted, least_permuted}
use Rattle.delta_score.proofs.least.least_within.Goals as goal

pub least_between-requires-clause-differ : goal.least_between-requires-clause-differ
least_between-requires-clause-differ c =
    rw c.deref.ensures.value
    (permuted_no_repeats (λ (x : Cluster). x.write) c.args.clusters.now c.in-Ok.sorted.items c.in-Ok.ensures.each_once c.requires.differ)

pub least_between-requires-clause-starts : goal.least_between-requires-clause-starts
least_between-requires-clause-starts c =
    rw c.deref.ensures.value
    (All-permutation (λ (x : Cluster). x.w ≤ x.f) c.args.clusters.now c.in-Ok.sorted.items c.in-Ok.ensures.each_once c.requires.starts)

pub least_between-requires-clause-bounds : goal.least_between-requires-clause-bounds
least_between-requires-clause-bounds c =
    rw c.deref.ensures.value (bounds_permuted c.args.clusters.now c.in-Ok.sorted.items c.in-Ok.ensures.each_once c.args.bounds c.requires.bounds)

pub returns-clause-least : goal.returns-clause-least
returns-clause-least c =
    least_permuted c.in-Ok.sorted.items c.args.clusters.now (IsPermutation-sym c.args.clusters.now c.in-Ok.sorted.items c.in-Ok.ensures.each_once) c.least_between.result
    (rw c.deref.ensures.value at c.least_between.ensures.least)
