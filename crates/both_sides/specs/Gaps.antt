-- The gaps of clusters: by how much f of the one has to be later for two not to be in conflict. What serves the code alone.
use Rattle.std.specs.Prelude.{◌≡◌, ◌⊎◌, ℕ, ◌+◌, ◌-◌, ◌^◌, ◌<◌, ◌≤◌, ◌==◌, min, if◌then◌else◌, List, map}
use Rattle.std.specs.List.Sorted.{IsPermutation, IsNonDecreasingBy}
use Rattle.stale_model.specs.declared.Cluster.{Cluster}
use Rattle.stale_model.specs.Orders.{StandsAt}
use Rattle.stale_model.specs.Zones.{last_start}
use Rattle.both_sides.specs.declared.gaps.Span.{Span}

-- the ticks of a cluster are as those of a valid key are: f and w of the initial write's are 0, and w of any other is not
pub record HasTicks (c : Cluster) : Type 0 where
  pub initial : c.write ≡ 0 → (c.f ≡ 0) × (c.w ≡ 0)
  pub recorded : 0 < c.write → 0 < c.w
  pub finish : c.f < 2 ^ 63 + 2 ^ 62
  pub start : last_start 0 c < 2 ^ 62

-- the numbers of a cluster that decide its gaps to others
abbrev pub span_of : Cluster → Span
span_of c = record { write = c.write; f = c.f; w = c.w; s = last_start 0 c }

-- by what spans are put in order: the initial write's is first, the others stand by f + s
abbrev pub rank_of : Span → ℕ
rank_of x = if x.write == 0 then 0 else min (x.f + x.s) (2 ^ 64 - 1)

-- the spans of the clusters, each once, by rank
pub record AreSpans (clusters : List Cluster) (spans : List Span) : Type 0 where
  pub each_once : IsPermutation (map span_of clusters) spans
  pub by_rank : IsNonDecreasingBy rank_of spans

-- f of a span is more than t less than its w
pub record HasEarlySpan (t : ℕ) (spans : List Span) : Type 0 where
  pub place : ℕ
  pub x : Span
  pub at : StandsAt spans place x
  pub early : x.f + t < x.w

-- f of a span is more than t less than s of an earlier one
pub record HasCrossing (t : ℕ) (spans : List Span) : Type 0 where
  pub earlier : ℕ
  pub later : ℕ
  pub x : Span
  pub y : Span
  pub first : StandsAt spans earlier x
  pub second : StandsAt spans later y
  pub rises : earlier < later
  pub crosses : y.f + t < x.s

-- gap is the greatest gap from f of a span to s of an earlier one, or to w of its own
pub record IsGreatestGap (spans : List Span) (gap : ℕ) : Type 0 where
  pub in_turn : (place : ℕ) (x : Span) → StandsAt spans place x → x.w ≤ x.f + gap
  pub uncrossed : (earlier later : ℕ) (x y : Span) → StandsAt spans earlier x → StandsAt spans later y → earlier < later → x.s ≤ y.f + gap
  pub reached : (t : ℕ) → t < gap → HasEarlySpan t spans ⊎ HasCrossing t spans
