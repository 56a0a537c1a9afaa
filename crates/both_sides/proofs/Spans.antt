-- The greatest gap of the spans of clusters, by rank, is the gap of the clusters.
use Rattle.std.proofs.Common.{◌≡◌, ◌≢◌, ℕ, ◌+◌, ◌-◌, ◌^◌, ◌<◌, ◌≤◌, List, [], ◌∷◌, get_or, map, min, refl, sym, ◌∙◌, inl, inr, subst, ap, arith}
use Rattle.std.specs.Prelude.{All, Contains}
use Rattle.std.proofs.lemmas.Bool.{cases_lt, cases_order}
use Rattle.std.proofs.lemmas.Option.{slice_get_within, get_or_from_slice_get}
use Rattle.std.proofs.lemmas.List.Elements.{All-map, All-contains, Contains-get_or}
use Rattle.std.proofs.lemmas.List.Sorted.{IsPermutation-sym, Contains-permutation}
use Rattle.stale_model.specs.declared.Cluster.{Cluster}
use Rattle.stale_model.specs.Clusters.{writes_of, WriteRecordsDiffer}
use Rattle.stale_model.specs.Orders.{StandsAt, IsWithoutRepeats}
use Rattle.stale_model.specs.Zones.{last_start, AreInConflict, HasNoConflict}
use Rattle.stale_model.proofs.Members.{mapped_from, before_mapped}
use Rattle.stale_model.proofs.Places.{contains_at, place_of, same_at, stands_mapped}
use Rattle.stale_model.proofs.Sorted.{permuted_no_repeats}
use Rattle.both_sides.specs.declared.gaps.Span.{Span}
use Rattle.both_sides.specs.Raised.{raised_cluster, raised_clusters, IsFreeAt, IsGap}
use Rattle.both_sides.proofs.LaterFinishes.{choice_at_zero, choice_above_zero}
use Rattle.both_sides.specs.Gaps.{HasTicks, span_of, rank_of, AreSpans, HasEarlySpan, HasCrossing, IsGreatestGap}

-- f of the initial write's cluster stays, and that of any other is later by t
pub raised_initial : (t : ℕ) (c : Cluster) → c.write ≡ 0 → (raised_cluster t c).f ≡ c.f
raised_initial t c e = choice_at_zero c.write c.f (c.f + t) e

pub raised_recorded : (t : ℕ) (c : Cluster) → 0 < c.write → (raised_cluster t c).f ≡ c.f + t
raised_recorded t c above = choice_above_zero c.write c.f (c.f + t) above

writes_spanned : (clusters : List Cluster) → map (λ (x : Span). x.write) (map span_of clusters) ≡ writes_of clusters
writes_spanned [] = refl
writes_spanned (c ∷ cs) = ap (λ (ws : List ℕ). c.write ∷ ws) (writes_spanned cs)

module _ (clusters : List Cluster) (spans : List Span) (gap : ℕ) (differ : WriteRecordsDiffer clusters) (ticks : All HasTicks clusters)
    (are : AreSpans clusters spans) (is : IsGreatestGap spans gap) where
  ticks_at : (c : Cluster) → Contains clusters c → HasTicks c
  ticks_at c there = All-contains HasTicks clusters c ticks there

  -- each span is that of a cluster
  record IsOfCluster (x : Span) : Type 0 where
    c : Cluster
    there : Contains clusters c
    span_is : span_of c ≡ x

  spanned : (a : ℕ) (x : Span) → StandsAt spans a x → IsOfCluster x
  spanned a x at =
      let back = IsPermutation-sym (map span_of clusters) spans are.each_once in
      let (c, there, same) = before_mapped span_of clusters x (Contains-permutation spans (map span_of clusters) x back (contains_at spans a x at)) in
      record { c = c; there = there; span_is = same }

  -- the span of each cluster stands somewhere
  placed : (c : Cluster) → Contains clusters c → (a : ℕ) × StandsAt spans a (span_of c)
  placed c there = place_of spans (span_of c) (Contains-permutation (map span_of clusters) spans (span_of c) are.each_once (mapped_from span_of clusters c there))

  spans_differ : IsWithoutRepeats (map (λ (x : Span). x.write) spans)
  spans_differ =
      permuted_no_repeats (λ (x : Span). x.write) (map span_of clusters) spans are.each_once
      (subst (λ (ws : List ℕ). IsWithoutRepeats ws) (sym (writes_spanned clusters)) differ)

  same_place : (a b : ℕ) (x y : Span) → StandsAt spans a x → StandsAt spans b y → x.write ≡ y.write → a ≡ b
  same_place a b x y first second same =
      spans_differ a b x.write (stands_mapped (λ (u : Span). u.write) spans a x first)
      (subst (λ (n : ℕ). StandsAt (map (λ (u : Span). u.write) spans) b n) (sym same) (stands_mapped (λ (u : Span). u.write) spans b y second))

  rank_rises : (a b : ℕ) (x y : Span) → StandsAt spans a x → StandsAt spans b y → a < b → rank_of x ≤ rank_of y
  rank_rises a b x y first second rises =
      let within = slice_get_within spans b y second in
      subst (λ (u : Span). rank_of x ≤ rank_of u) (get_or_from_slice_get spans b y x second)
      (subst (λ (u : Span). rank_of u ≤ rank_of (get_or spans b x)) (get_or_from_slice_get spans a x x first)
      (are.by_rank a b x (omega arith) within))

  -- the rank of a recorded cluster's span is f + s
  recorded_rank : (c : Cluster) → Contains clusters c → 0 < c.write → rank_of (span_of c) ≡ c.f + last_start 0 c
  recorded_rank c there above =
      let t = ticks_at c there in
      let finish = t.finish in
      let start = t.start in
      let low : min (c.f + last_start 0 c) (2 ^ 64 - 1) ≡ c.f + last_start 0 c = omega arith in
      choice_above_zero c.write 0 (min (c.f + last_start 0 c) (2 ^ 64 - 1)) above ∙ low

  -- of two clusters whose spans stand one after the other, the later one is recorded, and the gap to it is the lesser one
  module _ (a b : ℕ) (i j : Cluster) (ci : Contains clusters i) (cj : Contains clusters j) (first : StandsAt spans a (span_of i)) (second : StandsAt spans b (span_of j)) (rises : a < b) where
    rank_is : rank_of (span_of i) ≤ rank_of (span_of j)
    rank_is = rank_rises a b (span_of i) (span_of j) first second rises

    later_recorded : 0 < j.write
    later_recorded = elim (cases_lt 0 j.write) [
      | inl above ↦ above
      | inr low ↦
          let initial : j.write ≡ 0 = omega arith in
          let least : rank_of (span_of j) ≡ 0 = choice_at_zero j.write 0 (min (j.f + last_start 0 j) (2 ^ 64 - 1)) initial in
          elim (cases_lt 0 i.write) [
            | inl above ↦
                let more : rank_of (span_of i) ≡ i.f + last_start 0 i = recorded_rank i ci above in
                let starts = (ticks_at i ci).recorded above in
                let both : i.f + last_start 0 i ≤ 0 = subst (λ (n : ℕ). n ≤ 0) more (subst (λ (n : ℕ). rank_of (span_of i) ≤ n) least rank_is) in
                absurd (omega arith)
            | inr none ↦
                let one = same_place a b (span_of i) (span_of j) first second (omega arith) in
                absurd (omega arith)
          ]
    ]

    ranks_are : 0 < i.write → i.f + last_start 0 i ≤ j.f + last_start 0 j
    ranks_are above =
        subst (λ (n : ℕ). n ≤ j.f + last_start 0 j) (recorded_rank i ci above)
        (subst (λ (n : ℕ). rank_of (span_of i) ≤ n) (recorded_rank j cj later_recorded) rank_is)

    -- they don't cross from the gap on
    later_apart : (t : ℕ) → gap ≤ t → last_start 0 i ≤ (raised_cluster t j).f
    later_apart t le =
        let f : (raised_cluster t j).f ≡ j.f + t = raised_recorded t j later_recorded in
        let h = is.uncrossed a b (span_of i) (span_of j) first second rises in
        subst (λ (n : ℕ). last_start 0 i ≤ n) (sym f) (omega arith)

    -- where the later one crosses the earlier one, the two are in conflict
    later_conflict : (t : ℕ) → j.f + t < last_start 0 i → AreInConflict 0 (raised_cluster t i) (raised_cluster t j)
    later_conflict t crosses =
        let f : (raised_cluster t j).f ≡ j.f + t = raised_recorded t j later_recorded in
        let starts = (ticks_at j cj).recorded later_recorded in
        record {
          there = elim (cases_lt 0 i.write) [
            | inl above ↦
                let e : (raised_cluster t i).f ≡ i.f + t = raised_recorded t i above in
                let ranks = ranks_are above in
                subst (λ (n : ℕ). n < last_start 0 j) (sym e) (omega arith)
            | inr low ↦
                let initial : i.write ≡ 0 = omega arith in
                let e : (raised_cluster t i).f ≡ i.f = raised_initial t i initial in
                let (none, zeroth) = (ticks_at i ci).initial initial in
                subst (λ (n : ℕ). n < last_start 0 j) (sym e) (omega arith)
          ];
          back = subst (λ (n : ℕ). n < last_start 0 i) (sym f) crosses;
        }

  -- raised by the gap or more, no cluster is early
  in_turn_at : (t : ℕ) → gap ≤ t → (c : Cluster) → Contains clusters c → c.w ≤ (raised_cluster t c).f
  in_turn_at t le c there =
      let (a, at) = placed c there in
      let h : c.w ≤ c.f + gap = is.in_turn a (span_of c) at in
      elim (cases_lt 0 c.write) [
        | inl above ↦ subst (λ (n : ℕ). c.w ≤ n) (sym (raised_recorded t c above)) (omega arith)
        | inr low ↦
            let initial : c.write ≡ 0 = omega arith in
            let (zeroth, none) = (ticks_at c there).initial initial in
            omega arith
      ]

  -- and no two are in conflict
  apart_at : (t : ℕ) → gap ≤ t → (i j : Cluster) → Contains clusters i → Contains clusters j → i.write ≢ j.write → AreInConflict 0 (raised_cluster t i) (raised_cluster t j) → ⊥
  apart_at t le i j ci cj apart c =
      let (a, at) = placed i ci in
      let (b, bt) = placed j cj in
      elim (cases_order a b) [
        | inl e ↦ apart (ap (λ (x : Span). x.write) (same_at spans b (span_of i) (span_of j) (subst (λ (n : ℕ). StandsAt spans n (span_of i)) e at) bt))
        | inr less ↦ elim less [
          | inl rises ↦
              let back : (raised_cluster t j).f < last_start 0 i = c.back in
              let far = later_apart a b i j ci cj at bt rises t le in
              omega arith
          | inr rises ↦
              let there : (raised_cluster t i).f < last_start 0 j = c.there in
              let far = later_apart b a j i cj ci bt at rises t le in
              omega arith
        ]
      ]

  free_at : (t : ℕ) → gap ≤ t → IsFreeAt t clusters
  free_at t le = record {
    in_turn = All-map (λ (c : Cluster). c.w ≤ c.f) (raised_cluster t) clusters (λ k d within. in_turn_at t le (get_or clusters k d) (Contains-get_or clusters k d within));
    no_conflict = λ i j ci cj apart c.
        let (i0, i_there, i_is) = before_mapped (raised_cluster t) clusters i ci in
        let (j0, j_there, j_is) = before_mapped (raised_cluster t) clusters j cj in
        let write_i : i0.write ≡ i.write = ap (λ (x : Cluster). x.write) i_is in
        let write_j : j0.write ≡ j.write = ap (λ (x : Cluster). x.write) j_is in
        apart_at t le i0 j0 i_there j_there (λ e. apart (sym write_i ∙ e ∙ write_j))
        (subst (λ (x : Cluster). AreInConflict 0 x (raised_cluster t j0)) (sym i_is) (subst (λ (x : Cluster). AreInConflict 0 i x) (sym j_is) c));
  }

  -- raised by less, some cluster is early
  not_in_turn : (t : ℕ) → HasEarlySpan t spans → All (λ (c : Cluster). c.w ≤ c.f) (raised_clusters t clusters) → ⊥
  not_in_turn t h starts =
      let o = spanned h.place h.x h.at in
      let c = o.c in
      let f : c.f ≡ h.x.f = ap (λ (x : Span). x.f) o.span_is in
      let w : c.w ≡ h.x.w = ap (λ (x : Span). x.w) o.span_is in
      let early = h.early in
      let le : c.w ≤ (raised_cluster t c).f = All-contains (λ (x : Cluster). x.w ≤ x.f) (raised_clusters t clusters) (raised_cluster t c) starts (mapped_from (raised_cluster t) clusters c o.there) in
      elim (cases_lt 0 c.write) [
        | inl above ↦ let e : (raised_cluster t c).f ≡ c.f + t = raised_recorded t c above in omega arith
        | inr low ↦
            let initial : c.write ≡ 0 = omega arith in
            let (zeroth, none) = (ticks_at c o.there).initial initial in
            omega arith
      ]

  -- or some two are in conflict
  not_apart : (t : ℕ) → HasCrossing t spans → HasNoConflict 0 (raised_clusters t clusters) → ⊥
  not_apart t h free =
      let oi = spanned h.earlier h.x h.first in
      let oj = spanned h.later h.y h.second in
      let i = oi.c in
      let j = oj.c in
      let first = subst (λ (x : Span). StandsAt spans h.earlier x) (sym oi.span_is) h.first in
      let second = subst (λ (x : Span). StandsAt spans h.later x) (sym oj.span_is) h.second in
      let s : last_start 0 i ≡ h.x.s = ap (λ (x : Span). x.s) oi.span_is in
      let f : j.f ≡ h.y.f = ap (λ (x : Span). x.f) oj.span_is in
      let crosses = h.crosses in
      let rises = h.rises in
      free (raised_cluster t i) (raised_cluster t j) (mapped_from (raised_cluster t) clusters i oi.there) (mapped_from (raised_cluster t) clusters j oj.there)
      (λ same. let one = same_place h.earlier h.later (span_of i) (span_of j) first second same in omega arith)
      (later_conflict h.earlier h.later i j oi.there oj.there first second rises t (omega arith))

  pub gap_is : IsGap clusters gap
  gap_is = record {
    free = free_at;
    least = λ t less free. elim (is.reached t less) [
      | inl early ↦ not_in_turn t early free.in_turn
      | inr crossing ↦ not_apart t crossing free.no_conflict
    ];
  }

  -- the gap is no greater than the starts
  pub gap_small : gap ≤ 2 ^ 62
  gap_small = elim (cases_lt (2 ^ 62) gap) [
    | inl more ↦ elim (is.reached (2 ^ 62) more) [
      | inl h ↦
          let o = spanned h.place h.x h.at in
          let start = (ticks_at o.c o.there).start in
          let w : o.c.w ≡ h.x.w = ap (λ (x : Span). x.w) o.span_is in
          let early = h.early in
          omega arith
      | inr h ↦
          let o = spanned h.earlier h.x h.first in
          let start = (ticks_at o.c o.there).start in
          let s : last_start 0 o.c ≡ h.x.s = ap (λ (x : Span). x.s) o.span_is in
          let crosses = h.crosses in
          omega arith
    ]
    | inr le ↦ le
  ]
