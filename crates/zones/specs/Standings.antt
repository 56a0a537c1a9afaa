-- Where the zones of clusters stand in the zone order.
use Rattle.std.specs.Prelude.{◌≡◌, ℕ, List, map, slice_index_or}
use Rattle.std.specs.List.{enumerate_from}
use Rattle.std.specs.declared.cmp.Ordering.{Ordering}
use Rattle.std.specs.Ordering.{nat_cmp, bool_cmp, on, then_cmp}
use Rattle.stale_model.specs.declared.Cluster.{Cluster}
use Rattle.stale_model.specs.Zones.{zone_start, is_forward}
use Rattle.zones.specs.declared.standings.Standing.{Standing}

-- the standing at d of the cluster at this place
abbrev pub standing_of : ℕ → ℕ → Cluster → Standing
standing_of d place c = record { start = zone_start d c; place = place; write = c.write; forward = is_forward d c }

-- the zone order of standings
abbrev pub standing_order : Standing → Standing → Ordering
standing_order = then_cmp (then_cmp (on (λ s. s.start) nat_cmp) (on (λ s. s.forward) bool_cmp)) (on (λ s. s.write) nat_cmp)

-- the standing at d of each cluster
abbrev pub standings_of : ℕ → List Cluster → List Standing
standings_of d clusters = map (λ p. standing_of d p.0 p.1) (enumerate_from 0 clusters)

-- zones are the clusters at the places of these standings
abbrev pub AreAtPlaces : List Cluster → List Standing → List Cluster → Type 0
AreAtPlaces clusters standings zones = (none : Cluster) → zones ≡ map (λ s. slice_index_or clusters s.place none) standings
