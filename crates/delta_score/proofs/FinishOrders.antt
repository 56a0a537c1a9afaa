-- Clusters in the order of f: which of them the next one can be in conflict with.
use Rattle.std.proofs.Common.{◌≡◌, ℕ, ◌+◌, ◌<◌, ◌≤◌, List, length, subst, ap, inl, inr, arith}
use Rattle.std.specs.List.Sorted.{IsPermutation}
use Rattle.std.proofs.lemmas.Bool.{cases_lt, cases_order}
use Rattle.std.proofs.lemmas.Option.{slice_get_within, get_or_from_slice_get}
use Rattle.std.proofs.lemmas.List.Sorted.{Contains-permutation, IsPermutation-sym}
use Rattle.stale_model.specs.declared.Cluster.{Cluster}
use Rattle.stale_model.specs.Clusters.{writes_of, WriteRecordsDiffer}
use Rattle.stale_model.specs.Orders.{StandsAt}
use Rattle.stale_model.specs.Zones.{last_start, AreInConflict, HasNoConflict}
use Rattle.stale_model.proofs.Places.{contains_at, place_of, same_at, write_stands}
use Rattle.zones.specs.Conflicts.{IsConflict, HasConflict}
use Rattle.zones.proofs.Conflicts.{AreInConflict-sym}
use Rattle.delta_score.specs.declared.least.Bounds.{Bounds}
use Rattle.delta_score.specs.Scores.{IsLeastWithoutConflict, AreBounds}
use Rattle.delta_score.specs.FinishOrders.{AreByFinish}

-- of the clusters before this place that at last starts last, and no two of them are in conflict
pub record IsLastBefore (d : ℕ) (sorted : List Cluster) (place last : ℕ) : Type 0 where
  pub before : last < place
  pub bound : (a : ℕ) (x y : Cluster) → StandsAt sorted a x → a < place → StandsAt sorted last y → last_start d x ≤ last_start d y
  pub none : (a b : ℕ) (x y : Cluster) → StandsAt sorted a x → StandsAt sorted b y → a < b → b < place → AreInConflict d x y → ⊥

-- before the second place that is the first one
pub first_is_last : (d : ℕ) (sorted : List Cluster) → IsLastBefore d sorted 1 0
first_is_last d sorted = record {
  before = omega arith;
  bound = λ a x y at low y_at.
      let e : a ≡ 0 = omega arith in
      let same : x ≡ y = same_at sorted 0 x y (subst (λ (n : ℕ). StandsAt sorted n x) e at) y_at in
      let s : last_start d x ≡ last_start d y = ap (last_start d) same in
      omega arith;
  none = λ a b x y at bt rises low c. absurd (omega arith);
}

module _ (d : ℕ) (sorted : List Cluster) (place last : ℕ) (far next : Cluster) (g : IsLastBefore d sorted place last) (far_at : StandsAt sorted last far)
    (next_at : StandsAt sorted place next) where
  -- the two at these places, in conflict
  pub in_conflict : WriteRecordsDiffer sorted → AreInConflict d far next → IsConflict d sorted far next
  in_conflict differ c = record {
    i_there = contains_at sorted last far far_at;
    j_there = contains_at sorted place next next_at;
    apart = λ same.
        let e = differ last place next.write (subst (λ (rec : ℕ). StandsAt (writes_of sorted) last rec) same (write_stands sorted last far far_at)) (write_stands sorted place next next_at) in
        let low = g.before in
        absurd (omega arith);
    conflict = c;
  }

  module _ (by : AreByFinish sorted) (apart : AreInConflict d far next → ⊥) where
    finish_rises : (a : ℕ) (x : Cluster) → StandsAt sorted a x → a < place → x.f ≤ next.f
    finish_rises a x at low =
        let here = get_or_from_slice_get sorted a x x at in
        let there = get_or_from_slice_get sorted place next x next_at in
        let up = by a place x (omega arith) (slice_get_within sorted place next next_at) in
        rw (here, there) at up

    -- what is in conflict with the next one would be in conflict with that which starts last
    none_with_next : (a : ℕ) (x : Cluster) → StandsAt sorted a x → a < place → AreInConflict d x next → ⊥
    none_with_next a x at low c =
        let back = c.back in
        let most = g.bound a x far at low far_at in
        let x_rises = finish_rises a x at low in
        let far_rises = finish_rises last far far_at g.before in
        elim (cases_order a last) [
          | inl e ↦
              let same : x ≡ far = same_at sorted last x far (subst (λ (n : ℕ). StandsAt sorted n x) e at) far_at in
              apart (subst (λ (z : Cluster). AreInConflict d z next) same c)
          | inr less ↦ elim less [
            | inl rises ↦ g.none a last x far at far_at rises g.before (record { there = omega arith; back = omega arith })
            | inr rises ↦ g.none last a far x far_at at rises low (record { there = omega arith; back = omega arith })
          ]
        ]

    none_more : (a b : ℕ) (x y : Cluster) → StandsAt sorted a x → StandsAt sorted b y → a < b → b < place + 1 → AreInConflict d x y → ⊥
    none_more a b x y at bt rises below c = elim (cases_lt b place) [
      | inl low ↦ g.none a b x y at bt rises low c
      | inr high ↦
          let e : b ≡ place = omega arith in
          let same : y ≡ next = same_at sorted place y next (subst (λ (n : ℕ). StandsAt sorted n y) e bt) next_at in
          none_with_next a x at (omega arith) (subst (λ (z : Cluster). AreInConflict d x z) same c)
    ]

    bound_more : (top : ℕ) → last_start d far ≤ top → last_start d next ≤ top → (a : ℕ) (x : Cluster) → StandsAt sorted a x → a < place + 1 → last_start d x ≤ top
    bound_more top old new a x at below = elim (cases_lt a place) [
      | inl low ↦ let most = g.bound a x far at low far_at in omega arith
      | inr high ↦
          let e : a ≡ place = omega arith in
          let same : x ≡ next = same_at sorted place x next (subst (λ (n : ℕ). StandsAt sorted n x) e at) next_at in
          let s : last_start d x ≡ last_start d next = ap (last_start d) same in
          omega arith
    ]

    -- the next one starts last
    pub next_is_last : last_start d far < last_start d next → IsLastBefore d sorted (place + 1) place
    next_is_last more = record {
      before = omega arith;
      bound = λ a x y at below y_at.
          let same : y ≡ next = same_at sorted place y next y_at next_at in
          let s : last_start d y ≡ last_start d next = ap (last_start d) same in
          let most = bound_more (last_start d next) (omega arith) (omega arith) a x at below in
          omega arith;
      none = none_more;
    }

    -- it doesn't
    pub last_stays : last_start d next ≤ last_start d far → IsLastBefore d sorted (place + 1) last
    last_stays less = record {
      before = let low = g.before in omega arith;
      bound = λ a x y at below y_at.
          let same : y ≡ far = same_at sorted last y far y_at far_at in
          let s : last_start d y ≡ last_start d far = ap (last_start d) same in
          let most = bound_more (last_start d far) (omega arith) less a x at below in
          omega arith;
      none = none_more;
    }

-- at the end no two are in conflict
pub none_at_end : (d : ℕ) (sorted : List Cluster) (place last : ℕ) → IsLastBefore d sorted place last → length sorted ≤ place → HasNoConflict d sorted
none_at_end d sorted place last g end i j first second apart c =
    let (a, at) = place_of sorted i first in
    let (b, bt) = place_of sorted j second in
    let a_within = slice_get_within sorted a i at in
    let b_within = slice_get_within sorted b j bt in
    elim (cases_order a b) [
      | inl e ↦ apart (ap (λ (x : Cluster). x.write) (same_at sorted b i j (subst (λ (n : ℕ). StandsAt sorted n i) e at) bt))
      | inr less ↦ elim less [
        | inl rises ↦ g.none a b i j at bt rises (omega arith) c
        | inr rises ↦ g.none b a j i bt at rises (omega arith) (AreInConflict-sym d i j c)
      ]
    ]

-- the order of clusters doesn't matter to conflicts
module _ (xs ys : List Cluster) (each : IsPermutation xs ys) where
  conflict_permuted : (d : ℕ) → HasConflict d xs → HasConflict d ys
  conflict_permuted d (i, j, c) = (
    i,
    j,
    record { i_there = Contains-permutation xs ys i each c.i_there; j_there = Contains-permutation xs ys j each c.j_there; apart = c.apart; conflict = c.conflict },
  )

  no_conflict_permuted : (d : ℕ) → HasNoConflict d xs → HasNoConflict d ys
  no_conflict_permuted d none i j first second =
      none i j (Contains-permutation ys xs i (IsPermutation-sym xs ys each) first) (Contains-permutation ys xs j (IsPermutation-sym xs ys each) second)

  pub bounds_permuted : (bounds : Bounds) → AreBounds xs bounds → AreBounds ys bounds
  bounds_permuted bounds are = record { below = λ e low. conflict_permuted e (are.below e low); above = no_conflict_permuted bounds.high are.above }

  pub least_permuted : (delta : ℕ) → IsLeastWithoutConflict xs delta → IsLeastWithoutConflict ys delta
  least_permuted delta is = record { apart = no_conflict_permuted delta is.apart; least = λ e low. conflict_permuted e (is.least e low) }
