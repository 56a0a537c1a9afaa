use Rattle.std.proofs.Common.{take}
use Rattle.zones.specs.Standings.{AreAtPlaces}
use Rattle.zones.proofs.standings.clusters_at.Given as goal

abbrev pub invariant-loop-standing : goal.invariant-loop-standing
invariant-loop-standing l = AreAtPlaces l.clusters (take l.standing-index l.standings) l.zones.items
