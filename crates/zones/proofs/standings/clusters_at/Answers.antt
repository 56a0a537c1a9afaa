use Rattle.std.proofs.Common.{◌∙◌, ap, get_or, map}
use Rattle.std.proofs.lemmas.List.{take_all}
use Rattle.zones.specs.declared.standings.Standing.{Standing}
use Rattle.zones.proofs.standings.clusters_at.Goals as goal

pub returns : goal.returns
returns c = λ none.
    c.loop-standing.invariant none
    ∙ ap (map (λ (s : Standing). get_or c.args.clusters.now s.place none)) (take_all c.loop-standing.standing-index c.args.standings.now c.loop-standing-test.false)
