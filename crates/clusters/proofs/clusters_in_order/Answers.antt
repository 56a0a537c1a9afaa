use Rattle.std.proofs.Common.{Some, rules}
use borrow.Author.Tests.{tests}
use Rattle.std.proofs.lemmas.Iterator.{YieldsList-from_slice}
use Rattle.std.proofs.lemmas.Iterator.Adapters.{YieldsList-from_once, items_from_extend}
use Rattle.std.proofs.lemmas.Iterator.Consumers.{YieldsList-from_filter_map, YieldsList-from_chain, YieldsList-from_copied, YieldsList-at}
use Rattle.stale_model.specs.Operations.{initial_write}
use Rattle.clusters.specs.Tables.{cluster_in}
use Rattle.clusters.proofs.clusters_in_order.Goals as goal

pub returns : goal.returns
returns c =
    let key = c.args.key.now in
    let gives = c.operations.ensures in
    let taken =
    items_from_extend c.extend.result c.extend.ensures.ran
    (YieldsList-from_filter_map _ (cluster_in c.args.table.now)
    (YieldsList-at c.filter_map.ensures.source
    (YieldsList-from_chain (YieldsList-from_once (Some initial_write) gives.initial) (YieldsList-from_copied (YieldsList-from_slice key.ops gives.others)) gives.initial_left gives.others_left))
    c.filter_map.ensures.closure (λ x r q k. search (rules, tests))) in
    search rules
