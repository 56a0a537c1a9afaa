-- A sweep: the greatest s of the zones before a place, none of which crosses an earlier one.
use Rattle.std.proofs.Common.{◌≡◌, ℕ, ◌+◌, ◌<◌, ◌≤◌, List, length, max, inl, inr, subst, ap, arith}
use Rattle.std.proofs.lemmas.Bool.{cases_lt}
use Rattle.std.proofs.lemmas.Option.{slice_get_within}
use Rattle.stale_model.specs.declared.Cluster.{Cluster}
use Rattle.stale_model.specs.Orders.{StandsAt}
use Rattle.stale_model.specs.Zones.{last_start, Crosses, HasNoCrossing}
use Rattle.stale_model.proofs.Places.{same_at}
use Rattle.zones.specs.Sweeps.{IsLaterOfPair}

-- a zone before this place has its s above f
pub record IsAbove (d : ℕ) (zones : List Cluster) (place f : ℕ) : Type 0 where
  pub earlier : ℕ
  pub i : Cluster
  pub at : StandsAt zones earlier i
  pub before : earlier < place
  pub above : f < last_start d i

-- greatest is the greatest s of the zones before this place, 0 where there are none; none of them crosses an earlier one
pub record IsGreatestBefore (d : ℕ) (zones : List Cluster) (place greatest : ℕ) : Type 0 where
  pub bound : (a : ℕ) (x : Cluster) → StandsAt zones a x → a < place → last_start d x ≤ greatest
  pub reached : (f : ℕ) → f < greatest → IsAbove d zones place f
  pub none : (a b : ℕ) (x y : Cluster) → Crosses d zones a b x y → place ≤ b

-- before the first place there is none
pub none_before : (d : ℕ) (zones : List Cluster) → IsGreatestBefore d zones 0 0
none_before d zones = record { bound = λ a x at low. absurd (omega arith); reached = λ f low. absurd (omega arith); none = λ a b x y c. omega arith }

-- the zone at the place crosses an earlier one
pub crossing_at : (d : ℕ) (zones : List Cluster) (place greatest : ℕ) (zone : Cluster) → IsGreatestBefore d zones place greatest → StandsAt zones place zone
    → zone.f < greatest → IsLaterOfPair d zones zone
crossing_at d zones place greatest zone g at low =
    let above = g.reached zone.f low in (
      above.i,
      record {
        earlier = above.earlier;
        later = place;
        crosses = record { first = above.at; second = at; rises = above.before; crosses = above.above };
        first = g.none;
      },
    )

module _ (d : ℕ) (zones : List Cluster) (place greatest : ℕ) (zone : Cluster) (g : IsGreatestBefore d zones place greatest) (at : StandsAt zones place zone) where
  bound_more : (a : ℕ) (x : Cluster) → StandsAt zones a x → a < place + 1 → last_start d x ≤ max greatest (last_start d zone)
  bound_more a x there below = elim (cases_lt a place) [
    | inl before ↦ let b = g.bound a x there before in omega arith
    | inr after ↦
        let e : a ≡ place = omega arith in
        let same : x ≡ zone = same_at zones place x zone (subst (λ (n : ℕ). StandsAt zones n x) e there) at in
        let s : last_start d x ≡ last_start d zone = ap (last_start d) same in
        omega arith
  ]

  reached_more : (f : ℕ) → f < max greatest (last_start d zone) → IsAbove d zones (place + 1) f
  reached_more f below = elim (cases_lt f greatest) [
    | inl low ↦
        let above = g.reached f low in
        let before = above.before in
        record { earlier = above.earlier; i = above.i; at = above.at; before = omega arith; above = above.above }
    | inr high ↦ record { earlier = place; i = zone; at = at; before = omega arith; above = omega arith }
  ]

  -- the zone at the place crosses no earlier one
  pub IsGreatestBefore-more : greatest ≤ zone.f → IsGreatestBefore d zones (place + 1) (max greatest (last_start d zone))
  IsGreatestBefore-more high = record {
    bound = bound_more;
    reached = reached_more;
    none = λ a b x y c. none_more a b x y c;
  } where
    none_more : (a b : ℕ) (x y : Cluster) → Crosses d zones a b x y → place + 1 ≤ b
    none_more a b x y c = elim (cases_lt place b) [
      | inl after ↦ omega arith
      | inr here ↦
          let least = g.none a b x y c in
          let e : b ≡ place = omega arith in
          let same : y ≡ zone = same_at zones place y zone (subst (λ (n : ℕ). StandsAt zones n y) e c.second) at in
          let f : y.f ≡ zone.f = ap (λ (z : Cluster). z.f) same in
          let r = c.rises in
          let s = g.bound a x c.first (omega arith) in
          let h = c.crosses in
          omega arith
    ]

-- at the end no zone crosses an earlier one
pub no_crossing-at_end : (d : ℕ) (zones : List Cluster) (place greatest : ℕ) → IsGreatestBefore d zones place greatest → length zones ≤ place → HasNoCrossing d zones
no_crossing-at_end d zones place greatest g end a b x y c =
    let within = slice_get_within zones b y c.second in
    let least = g.none a b x y c in
    omega arith
