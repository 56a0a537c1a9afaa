-- The four records of a pair hold.
use Rattle.stale_model.proofs.ClustersOne.{cluster_writes_differ}
use Rattle.zones.proofs.Crossings.{crossing-is_conflict}
use Rattle.model_laws.proofs.Between.{conflicts_hold}
use Rattle.delta_score.specs.ZoneLaws.{PairsShowFour}

pub pairs_show_four : PairsShowFour
pairs_show_four ops d clusters i j names are p =
    let c = crossing-is_conflict d clusters p.zones (cluster_writes_differ ops clusters are) p.zone_order p.pair.earlier p.pair.later i j p.pair.crosses in
    let (v, is_i) = are.each i c.i_there in
    let (w, is_j) = are.each j c.j_there in
    conflicts_hold ops d v w i j names is_i is_j c.apart c.conflict
