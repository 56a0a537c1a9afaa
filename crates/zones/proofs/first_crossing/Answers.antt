use Rattle.std.proofs.lemmas.Option.{slice_get-get_or}
use Rattle.zones.proofs.Greatest.{crossing_at, IsGreatestBefore-more, no_crossing-at_end}
use Rattle.zones.proofs.first_crossing.Goals as goal

pub returns-then-zone-greatest : goal.returns-then-zone-greatest
returns-then-zone-greatest c =
    crossing_at _ _ _ _ _ c.loop-zone.invariant (slice_get-get_or _ _ _ c.loop-zone-test.true) c.if-zone-greatest.true

pub loop-zone-preserved : goal.loop-zone-preserved
loop-zone-preserved c =
    rw (c.max-greatest.ensures, c.last_start.ensures) (IsGreatestBefore-more _ _ _ _ _ c.loop-zone.invariant (slice_get-get_or _ _ _ c.loop-zone-test.true) c.if-zone-greatest.false)

pub returns : goal.returns
returns c = no_crossing-at_end _ _ _ _ c.loop-zone.invariant c.loop-zone-test.false
