-- Serves the code alone: how rows and places belong together, and how places give the score.
use Rattle.std.specs.Prelude.{◌≡◌, ◌≢◌, ◌⊎◌, ◌↔◌, ℕ, ◌≤◌, ◌<◌, max, nat_lt, if◌then◌else◌, List, Option, Some, None}
use Rattle.stale_model.specs.Orders.{StandsAt}
use Rattle.live_score.specs.declared.places.Place.{Place}
use Rattle.live_score.specs.declared.rows.Row.{Row}
use Rattle.live_score.specs.Places.{score, unused}
use Rattle.live_score.specs.Rows.{shown}

-- a place without start of a write or reads has no score with any
pub record IsVacant (place : Place) : Type 0 where
  pub write : place.w ≡ 0
  pub reads : place.s ≡ 0

-- the place of a value, if it has one, is taken and shows its row
abbrev pub IsShown : List Place → ℕ → Row → Option ℕ → Type 0
IsShown places taken row None = Unit {0}
IsShown places taken row (Some at) = (at < taken) × StandsAt places at (shown row.write row.place)

-- the place is that of some value
pub record IsOfRow (rows : List Row) (at : ℕ) : Type 0 where
  pub value : ℕ
  pub row : Row
  pub stands : StandsAt rows value row
  pub at_is : row.at ≡ Some at

-- each row shows at its place, places of values differ, those taken are of values, and the others unused
pub record ArePlaced (rows : List Row) (taken : ℕ) (places : List Place) : Type 0 where
  pub shows : (value : ℕ) (row : Row) → StandsAt rows value row → IsShown places taken row row.at
  pub apart : (v u at : ℕ) (row other : Row) → StandsAt rows v row → StandsAt rows u other → row.at ≡ Some at → other.at ≡ Some at → v ≡ u
  pub owned : (at : ℕ) → at < taken → IsOfRow rows at
  pub rest : (at : ℕ) (place : Place) → taken ≤ at → StandsAt places at place → place ≡ unused

-- d is the greatest score of two places
abbrev pub IsGreatestOfPlaces : List Place → ℕ → Type 0
IsGreatestOfPlaces places d = (bound : ℕ) → (d ≤ bound) ↔ ((i j : ℕ) (a b : Place) → StandsAt places i a → StandsAt places j b → i ≢ j → score a b ≤ bound)

-- some read that counts is early
pub record IsEarlyPlace (places : List Place) : Type 0 where
  pub at : ℕ
  pub place : Place
  pub stands : StandsAt places at place
  pub early : place.f < place.w

-- no read that counts is early, and d is the greatest score
pub record IsGreatestWithoutEarly (places : List Place) (d : ℕ) : Type 0 where
  pub no_early : (at : ℕ) (place : Place) → StandsAt places at place → place.w ≤ place.f
  pub greatest : IsGreatestOfPlaces places d

-- the score by the places: none where a read that counts is early
abbrev pub IsScoreOfPlaces : List Place → Option ℕ → Type 0
IsScoreOfPlaces places None = IsEarlyPlace places
IsScoreOfPlaces places (Some d) = IsGreatestWithoutEarly places d

-- the numbers of a place whose s alone rises
pub record IsSameWrite (old new : Place) : Type 0 where
  pub f : old.f ≡ new.f
  pub w : old.w ≡ new.w
  pub s : old.s ≤ new.s

-- no score of the old numbers is greater than that of the new ones: they were vacant, or of the same write
abbrev pub IsRaised : Place → Place → Type 0
IsRaised old new = IsVacant old ⊎ IsSameWrite old new

-- a place as long as its cluster is asked about
abbrev pub vacated : Place → Place
vacated place = record place { w = 0; s = 0 }

-- the score after the numbers of a place changed, where its greatest score with the others is `asked`
abbrev pub score_after : Option ℕ → Place → ℕ → Option ℕ
score_after None place asked = None
score_after (Some d) place asked = if nat_lt place.f place.w then None else Some (max d asked)
