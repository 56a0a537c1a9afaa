use Rattle.zones.proofs.Greatest.{IsGreatestBefore}
use Rattle.zones.proofs.first_crossing.Given as goal

abbrev pub invariant-loop-zone : goal.invariant-loop-zone
invariant-loop-zone l = IsGreatestBefore l.d l.zones l.zone-index l.greatest
