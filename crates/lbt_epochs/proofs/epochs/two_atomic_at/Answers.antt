use Rattle.std.proofs.lemmas.Result.{IfOk-weaker}
use Rattle.lbt_epochs.specs.Steps.{clusters_left}
use Rattle.lbt_epochs.proofs.FirstCandidates.{candidates_are_left}
use Rattle.lbt_epochs.proofs.epochs.two_atomic_at.Goals as goal

pub returns : goal.returns
returns c =
    let lists = c.in_ok-lists.lists in
    let order = candidates_are_left c.args.clusters.now lists c.in_ok-lists.ensures.lists c.in_ok-lists.ensures.placed in
    IfOk-weaker c.answer.result _ _ (λ two is. record { candidates = clusters_left c.args.clusters.now lists; order = order; answer = is }) c.answer.ensures
