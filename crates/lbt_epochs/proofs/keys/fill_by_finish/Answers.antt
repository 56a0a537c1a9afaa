use Rattle.std.proofs.Common.{rules, ◌≡◌, ◌++◌, List, length, map, true, refl, sym, ap, ◌∙◌, arith}
use Rattle.std.specs.List.{range_with_len}
use Rattle.std.proofs.lemmas.Iterator.{YieldsList-from_range, YieldsList-from_map}
use Rattle.std.proofs.lemmas.Iterator.Consumers.{YieldsList-at}
use Rattle.std.proofs.lemmas.Iterator.Adapters.{items_from_extend}
use Rattle.std.proofs.lemmas.Result.{IfOk-weaker}
use Rattle.lbt_epochs.specs.declared.keys.Key.{Key}
use Rattle.lbt_epochs.specs.Keys.{key_at, keys_of}
use Rattle.lbt_epochs.proofs.Filters.{filter_all}
use Rattle.lbt_epochs.proofs.keys.fill_by_finish.Goals as goal

pub returns : goal.returns
returns c =
    let clusters = c.args.clusters.now in
    let all = range_with_len 0 (length clusters) in
    let kept : keys_of (λ c. true) (λ c. c.f) clusters ≡ map (key_at (λ c. c.f) clusters) all = ap (map (key_at (λ c. c.f) clusters)) (filter_all all) in
    let numbers = YieldsList-from_range 0 (length clusters) (length clusters) refl (omega arith) in
    let filled = items_from_extend c.extend.result c.extend.ensures.ran
    (YieldsList-from_map _ (key_at (λ c. c.f) clusters) (YieldsList-at c.map.ensures.source numbers) c.map.ensures.closure (λ x r q k. search rules)) in
    IfOk-weaker c.extend.result _ _ (λ done is. is.0 ∙ (ap (λ (keys : List Key). keys ++ map (key_at (λ c. c.f) clusters) all) c.clear.ensures.items ∙ sym kept)) filled
