-- What holds of every scale.
use Rattle.std.specs.Prelude.{◌≡◌, ◌↔◌, ℕ, ◌+◌, ◌-◌, ◌*◌, ◌%◌, ◌^◌, ◌<◌, ◌≤◌, ◌⊎◌, not, List, [], ◌∷◌, All, Contains, length, filter, ◌==◌}
use Rattle.std.specs.List.{slice_split}
use Rattle.std.specs.List.Sorted.{IsStrictlyIncreasing}
use Rattle.std.specs.Fmt.{decimal}
use Rattle.tick_axis.specs.declared.Scale.{Scale}
use Rattle.tick_axis.specs.Places.{IsScale, tick_place}
use Rattle.tick_axis.specs.Marks.{mark_count, step_of, marks_of, base_of}
use Rattle.tick_axis.specs.Groups.{grouped}

-- a later tick doesn't stand further left
abbrev pub PlacesDoNotFall : Type 0
PlacesDoNotFall = (s : Scale) (early late : ℕ) → early ≤ late → tick_place s early ≤ tick_place s late

-- a place is on the axis
pub record IsOnAxis (s : Scale) (place : ℕ) : Type 0 where
  pub from_left : s.left ≤ place
  pub to_right : place ≤ s.left + s.width

-- each tick stands on the axis
abbrev pub PlacesAreOnTheAxis : Type 0
PlacesAreOnTheAxis = (s : Scale) (tick : ℕ) → IsScale s → IsOnAxis s (tick_place s tick)

-- the first tick stands at the left end, and a later last one at the right end
pub record HasEnds (s : Scale) : Type 0 where
  pub left_end : tick_place s s.first ≡ s.left
  pub right_end : s.first < s.last → tick_place s s.last ≡ s.left + s.width

-- so it is on each scale
abbrev pub EndsStandAtTheEnds : Type 0
EndsStandAtTheEnds = (s : Scale) → IsScale s → HasEnds s

-- 1, 2 or 5 times a power of ten
abbrev pub IsRound : ℕ → Type 0
IsRound n = (k : ℕ) × ((n ≡ 10 ^ k) ⊎ (n ≡ 2 * 10 ^ k) ⊎ (n ≡ 5 * 10 ^ k))

-- a step is the least round number that gives at most ten marks
pub record IsStep (s : Scale) (step : ℕ) : Type 0 where
  pub round : IsRound step
  pub few : mark_count s step ≤ 10
  pub least : (smaller : ℕ) → IsRound smaller → smaller < step → 10 < mark_count s smaller

-- so is the step of each scale
abbrev pub StepsAreLeast : Type 0
StepsAreLeast = (s : Scale) → IsScale s → s.last < 2 ^ 64 → IsStep s (step_of s)

-- there is a mark, and there are at most ten, which rise; they are exactly the multiples of the step from the first tick to the last
pub record AreMarks (s : Scale) (marks : List ℕ) : Type 0 where
  pub some : 0 < length marks
  pub few : length marks ≤ 10
  pub rising : IsStrictlyIncreasing marks
  pub all : (tick : ℕ) → Contains marks tick ↔ ((s.first ≤ tick) × (tick ≤ s.last) × (tick % step_of s ≡ 0))

-- so are the marks of each scale
abbrev pub MarksAreTheMultiples : Type 0
MarksAreTheMultiples = (s : Scale) → IsScale s → s.last < 2 ^ 64 → AreMarks s (marks_of s)

-- the tick from which marks count isn't after the first, and is itself a multiple of the step; so counted, each tick is less than a thousand steps
pub record IsBase (s : Scale) (base : ℕ) : Type 0 where
  pub before : base ≤ s.first
  pub round : base % step_of s ≡ 0
  pub short : (tick : ℕ) → tick ≤ s.last → tick - base < 1000 * step_of s

-- so it is on each scale
abbrev pub LabelsAreShort : Type 0
LabelsAreShort = (s : Scale) → IsScale s → s.last < 2 ^ 64 → IsBase s (base_of s)

-- groups of three digits, of which the first may have fewer
abbrev pub AreGroups : List (List ℕ) → Type 0
AreGroups [] = ⊥
AreGroups (first ∷ others) = (0 < length first) × (length first ≤ 3) × All (λ group. length group ≡ 3) others

-- without its blanks a text is the number's decimal digits, and between them it is groups
pub record IsGrouped (number : ℕ) (text : List ℕ) : Type 0 where
  pub digits : filter (λ byte. not (byte == 32)) text ≡ decimal number
  pub groups : AreGroups (slice_split (λ byte. byte == 32) text)

-- so it is with each number of 64 bits
abbrev pub NumbersAreGrouped : Type 0
NumbersAreGrouped = (number : ℕ) → number < 2 ^ 64 → IsGrouped number (grouped number)
