use Rattle.std.proofs.Common.{rules, ◌++◌, List, length, refl, ap, ◌∙◌, arith}
use Rattle.std.specs.Prelude.{is_some}
use Rattle.std.proofs.lemmas.Iterator.{YieldsList-from_range, YieldsList-from_map}
use Rattle.std.proofs.lemmas.Iterator.Consumers.{YieldsList-at, YieldsList-from_filter}
use Rattle.std.proofs.lemmas.Iterator.Adapters.{items_from_extend}
use Rattle.std.proofs.lemmas.Result.{IfOk-weaker}
use Rattle.stale_model.specs.Zones.{reads_start}
use Rattle.lbt_epochs.specs.declared.keys.Key.{Key}
use Rattle.lbt_epochs.specs.Lists.{cluster_at}
use Rattle.lbt_epochs.specs.Keys.{key_at, keys_of}
use Rattle.lbt_epochs.proofs.keys.fill_by_reads.Goals as goal

pub returns : goal.returns
returns c =
    let clusters = c.args.clusters.now in
    let numbers = YieldsList-from_range 0 (length clusters) (length clusters) refl (omega arith) in
    let filled = items_from_extend c.extend.result c.extend.ensures.ran
    (YieldsList-from_map _ (key_at reads_start clusters)
    (YieldsList-at c.map.ensures.source
    (YieldsList-from_filter _ (λ at. is_some (cluster_at clusters at).s) (YieldsList-at c.filter-with_reads.ensures.source numbers) c.filter-with_reads.ensures.closure (λ x b q k. search rules)))
    c.map.ensures.closure (λ x r q k. search rules)) in
    IfOk-weaker c.extend.result _ _ (λ done is. is.0 ∙ ap (λ (keys : List Key). keys ++ keys_of (λ c. is_some c.s) reads_start clusters) c.clear.ensures.items) filled
