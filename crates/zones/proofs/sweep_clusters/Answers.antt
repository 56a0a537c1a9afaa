use Rattle.zones.proofs.Crossings.{no_conflict-from_no_crossing, pair_of_clusters}
use Rattle.zones.proofs.sweep_clusters.Goals as goal

pub returns-in-None : goal.returns-in-None
returns-in-None c =
    let order = c.in-Ok.ensures in
    (no_conflict-from_no_crossing _ _ _ c.requires order (rw c.deref.ensures.value at c.in-None.ensures), rw c.from_vec.ensures order)

pub returns-in-Some : goal.returns-in-Some
returns-in-Some c =
    pair_of_clusters _ _ _ c.requires c.in-Ok.ensures _ _ (rw c.deref.ensures.value at c.in-Some.ensures)
