-- A pass over spans: the greatest s and the greatest gap of those before a place.
use Rattle.std.proofs.Common.{◌≡◌, ◌⊎◌, ℕ, ◌+◌, ◌-◌, ◌<◌, ◌≤◌, List, length, max, inl, inr, subst, ap, arith}
use Rattle.std.proofs.lemmas.Bool.{cases_lt}
use Rattle.std.proofs.lemmas.Option.{slice_get_within}
use Rattle.stale_model.specs.Orders.{StandsAt}
use Rattle.stale_model.proofs.Places.{same_at}
use Rattle.both_sides.specs.declared.gaps.Span.{Span}
use Rattle.both_sides.specs.Gaps.{HasEarlySpan, HasCrossing, IsGreatestGap}

-- a span before this place has its s above u
pub record HasAbove (spans : List Span) (place u : ℕ) : Type 0 where
  pub earlier : ℕ
  pub x : Span
  pub at : StandsAt spans earlier x
  pub before : earlier < place
  pub above : u < x.s

-- of the spans before this place, start is the greatest s and gap the greatest gap
pub record AreGreatest (spans : List Span) (place start gap : ℕ) : Type 0 where
  pub bound : (a : ℕ) (x : Span) → StandsAt spans a x → a < place → x.s ≤ start
  pub above : (u : ℕ) → u < start → HasAbove spans place u
  pub in_turn : (a : ℕ) (x : Span) → StandsAt spans a x → a < place → x.w ≤ x.f + gap
  pub uncrossed : (a b : ℕ) (x y : Span) → StandsAt spans a x → StandsAt spans b y → a < b → b < place → x.s ≤ y.f + gap
  pub reached : (t : ℕ) → t < gap → HasEarlySpan t spans ⊎ HasCrossing t spans

-- before the first place there is none
pub none_before : (spans : List Span) → AreGreatest spans 0 0 0
none_before spans = record {
  bound = λ a x at low. absurd (omega arith);
  above = λ u low. absurd (omega arith);
  in_turn = λ a x at low. absurd (omega arith);
  uncrossed = λ a b x y first second rises low. absurd (omega arith);
  reached = λ t low. absurd (omega arith);
}

module _ (spans : List Span) (place start gap : ℕ) (z : Span) (g : AreGreatest spans place start gap) (at : StandsAt spans place z)
    (start_more gap_more : ℕ) (start_is : start_more ≡ max start z.s) (gap_is : gap_more ≡ max gap (max z.w start - z.f)) where
  -- what stands at this place or before stands before, or is the span here
  before_or_here : (a : ℕ) (x : Span) → StandsAt spans a x → a < place + 1 → (a < place) ⊎ (x ≡ z)
  before_or_here a x there below = elim (cases_lt a place) [
    | inl before ↦ inl before
    | inr after ↦
        let e : a ≡ place = omega arith in
        inr (same_at spans place x z (subst (λ (n : ℕ). StandsAt spans n x) e there) at)
  ]

  bound_more : (a : ℕ) (x : Span) → StandsAt spans a x → a < place + 1 → x.s ≤ start_more
  bound_more a x there below = elim (before_or_here a x there below) [
    | inl before ↦ let b = g.bound a x there before in omega arith
    | inr same ↦ let s : x.s ≡ z.s = ap (λ (y : Span). y.s) same in omega arith
  ]

  above_more : (u : ℕ) → u < start_more → HasAbove spans (place + 1) u
  above_more u below = elim (cases_lt u start) [
    | inl low ↦
        let h = g.above u low in
        let before = h.before in
        record { earlier = h.earlier; x = h.x; at = h.at; before = omega arith; above = h.above }
    | inr high ↦ record { earlier = place; x = z; at = at; before = omega arith; above = omega arith }
  ]

  in_turn_more : (a : ℕ) (x : Span) → StandsAt spans a x → a < place + 1 → x.w ≤ x.f + gap_more
  in_turn_more a x there below = elim (before_or_here a x there below) [
    | inl before ↦ let b = g.in_turn a x there before in omega arith
    | inr same ↦
        let w : x.w ≡ z.w = ap (λ (y : Span). y.w) same in
        let f : x.f ≡ z.f = ap (λ (y : Span). y.f) same in
        omega arith
  ]

  uncrossed_more : (a b : ℕ) (x y : Span) → StandsAt spans a x → StandsAt spans b y → a < b → b < place + 1 → x.s ≤ y.f + gap_more
  uncrossed_more a b x y first second rises below = elim (before_or_here b y second below) [
    | inl before ↦ let h = g.uncrossed a b x y first second rises before in omega arith
    | inr same ↦
        let s = g.bound a x first (omega arith) in
        let f : y.f ≡ z.f = ap (λ (u : Span). u.f) same in
        omega arith
  ]

  reached_more : (t : ℕ) → t < gap_more → HasEarlySpan t spans ⊎ HasCrossing t spans
  reached_more t below = elim (cases_lt t gap) [
    | inl low ↦ g.reached t low
    | inr high ↦ elim (cases_lt (z.f + t) z.w) [
      | inl early ↦ inl (record { place = place; x = z; at = at; early = early })
      | inr in_time ↦
          let h = g.above (z.f + t) (omega arith) in
          inr (record { earlier = h.earlier; later = place; x = h.x; y = z; first = h.at; second = at; rises = h.before; crosses = h.above })
    ]
  ]

  -- with one span more
  pub AreGreatest-more : AreGreatest spans (place + 1) start_more gap_more
  AreGreatest-more = record { bound = bound_more; above = above_more; in_turn = in_turn_more; uncrossed = uncrossed_more; reached = reached_more }

-- at the end gap is that of all
pub greatest-at_end : (spans : List Span) (place start gap : ℕ) → AreGreatest spans place start gap → length spans ≤ place → IsGreatestGap spans gap
greatest-at_end spans place start gap g end = record {
  in_turn = λ a x at. let within = slice_get_within spans a x at in g.in_turn a x at (omega arith);
  uncrossed = λ a b x y first second rises. let within = slice_get_within spans b y second in g.uncrossed a b x y first second rises (omega arith);
  reached = g.reached;
}
