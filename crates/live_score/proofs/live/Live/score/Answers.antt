use Rattle.std.proofs.Common.{subst}
use Rattle.stale_model.specs.Counted.{IsScore}
use Rattle.live_score.specs.Feeding.{LiveView}
use Rattle.live_score.proofs.Keeping.{kept_score}
use Rattle.live_score.proofs.live.Live.score.Goals as goal

pub returns : goal.returns
returns c =
    let l = c.self.inside in
    subst (λ (v : LiveView). IsScore v.fed l.score) c.self.view_is (kept_score l.values l.fed.items l.rows.items l.taken l.tree l.score l.waiting c.self.invariant.kept)
