-- The zone order, and what a zone that crosses an earlier one says.
use Rattle.std.proofs.Common.{◌≡◌, ℕ, ◌<◌, ◌≤◌, false, List, inl, inr, arith}
use Rattle.std.specs.List.Sorted.{IsSorted}
use Rattle.std.specs.Ordering.{is_lt}
use Rattle.std.specs.Cmp.{IsTotalOrder, nat_cmp_total, bool_cmp_total}
use Rattle.std.proofs.lemmas.Bool.{cases_order}
use Rattle.std.proofs.lemmas.Bool.Decides.{nat_tests}
use Rattle.std.proofs.lemmas.Cmp.{then_total, on_total}
use Rattle.std.proofs.lemmas.List.Sorted.{ranks_by, sorted_far}
use Rattle.std.proofs.lemmas.Option.{slice_get_within, get_or_from_slice_get}
use Rattle.stale_model.specs.declared.Cluster.{Cluster}
use Rattle.stale_model.specs.Orders.{StandsAt}
use Rattle.stale_model.specs.Zones.{last_start, AreInConflict, zone_start, is_forward, zone_order, Crosses, IsPair}

-- the zone order is total
pub zone_order-total : (d : ℕ) → IsTotalOrder (zone_order d)
zone_order-total d = then_total (then_total (on_total (zone_start d) nat_cmp_total) (on_total (is_forward d) bool_cmp_total)) (on_total (λ c. c.write) nat_cmp_total)

-- a later zone doesn't come before an earlier one
pub not_before : (d : ℕ) (zones : List Cluster) (a b : ℕ) (i j : Cluster) → IsSorted (zone_order d) zones → StandsAt zones a i → StandsAt zones b j → a < b
    → is_lt (zone_order d j i) ≡ false
not_before d zones a b i j sorted first second rises =
    let far = sorted_far (λ x y. is_lt (zone_order d x y)) (ranks_by (zone_order-total d) (λ x. x)) zones sorted a b i (omega arith) (slice_get_within zones b j second) in
    let earlier = get_or_from_slice_get zones a i i first in
    let later = get_or_from_slice_get zones b j i second in
    rw (earlier, later) at far

-- where a zone doesn't come before i in the zone order, and has an operation that precedes one of i, the two are in conflict
pub crossing_conflicts : (d : ℕ) (i j : Cluster) → is_lt (zone_order d j i) ≡ false → j.f < last_start d i → AreInConflict d i j
crossing_conflicts d i j order back = record { there = grind (arith, nat_tests); back = back }

-- such a zone doesn't finish before i
finishes_by : (d : ℕ) (i j : Cluster) → is_lt (zone_order d j i) ≡ false → j.f < last_start d i → i.f ≤ j.f
finishes_by d i j order back = grind (arith, nat_tests)

module _ (d : ℕ) (zones : List Cluster) (sorted : IsSorted (zone_order d) zones) where
  -- the first zone that crosses an earlier one doesn't cross two
  not_two : (a b later : ℕ) (x y j : Cluster) → ((a b : ℕ) (x y : Cluster) → Crosses d zones a b x y → later ≤ b) → Crosses d zones a later x j → Crosses d zones b later y j → a < b → ⊥
  not_two a b later x y j first cx cy less =
      let low = finishes_by d y j (not_before d zones b later y j sorted cy.first cy.second cy.rises) cy.crosses in
      let above = cx.crosses in
      let rises = cy.rises in
      let least = first a b x y (record { first = cx.first; second = cy.first; rises = less; crosses = omega arith }) in
      omega arith

  -- in a zone order the earlier zone of the pair is the only one that the later one crosses
  pub one_earlier : (i j x : Cluster) (p : IsPair d zones i j) (a : ℕ) → Crosses d zones a p.later x j → p.earlier ≡ a
  one_earlier i j x p a c = elim (cases_order p.earlier a) [
    | inl same ↦ same
    | inr less ↦ elim less [
      | inl low ↦ absurd (not_two p.earlier a p.later i x j p.first p.crosses c low)
      | inr low ↦ absurd (not_two a p.earlier p.later x i j p.first c p.crosses low)
    ]
  ]
