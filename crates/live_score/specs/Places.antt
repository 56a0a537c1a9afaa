-- What decides the score of a cluster with another, and that score.
use Rattle.std.specs.Prelude.{ℕ, ◌-◌, ◌^◌, nat_lt, min, if◌then◌else◌, List}
use Rattle.std.specs.List.Sorted.{IsNonDecreasingBy}
use Rattle.live_score.specs.declared.places.Place.{Place}

-- what stands for a number without bound
abbrev pub unbounded : ℕ
unbounded = 2 ^ 64 - 1

-- the least d at which no operation of b starts after the first of a finished: without bound where the write of b does
abbrev pub side : Place → Place → ℕ
side a b = if nat_lt a.f b.w then unbounded else min unbounded (b.s - a.f)

-- the score of two: the lesser of their sides
abbrev pub score : Place → Place → ℕ
score a b = min (side a b) (side b a)

-- f does not fall along the places
abbrev pub AreRising : List Place → Type 0
AreRising places = IsNonDecreasingBy (λ x. x.f) places

-- a place that no cluster has: it stands behind all others, and its score with each is 0
abbrev pub unused : Place
unused = record { f = unbounded; w = 0; s = 0 }
