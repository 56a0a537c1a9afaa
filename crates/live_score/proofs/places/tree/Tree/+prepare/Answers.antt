use Rattle.std.proofs.Common.{◌-◌, ◌/◌, arith}
use Rattle.std.proofs.lemmas.List.{replicate-append-replicate}
use Rattle.live_score.specs.Places.{unused}
use Rattle.live_score.proofs.places.tree.Tree.+prepare.Goals as goal

pub returns-clause-places : goal.returns-clause-places
returns-clause-places t c =
    let half = c.args.count / 2 in
    let e = replicate-append-replicate half (c.args.count - half) unused in
    grind (arith, e)
