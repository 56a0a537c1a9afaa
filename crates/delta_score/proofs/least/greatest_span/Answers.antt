use Rattle.std.proofs.Common.{◌+◌, ◌≤◌, rules}
use Rattle.std.specs.Prelude.{All}
use Rattle.stale_model.specs.Zones.{reads_start}
use Rattle.zones.proofs.Conflicts.{HasNoConflict-far}
use Rattle.delta_score.proofs.least.greatest_span.Goals as goal

pub returns : goal.returns
returns c =
    let reads : All (λ x. reads_start x ≤ x.f + c.unwrap_or.result) c.args.clusters.now = search rules in
    HasNoConflict-far c.unwrap_or.result c.args.clusters.now c.requires reads
