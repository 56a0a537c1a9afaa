-- The moment of each operation of an order: the tick at which a picture lets it happen.
use Rattle.std.specs.Prelude.{◌≡◌, ℕ, ◌≤◌, min, List, length}
use Rattle.stale_model.specs.declared.Op.{Op}
use Rattle.stale_model.specs.Operations.{earliest_start, latest_finish}
use Rattle.stale_model.specs.Orders.{StandsAt}

-- b stands at this place of the list, or later
pub record StandsFrom (ordered : List Op) (place : ℕ) (b : Op) : Type 0 where
  pub at : ℕ
  pub from : place ≤ at
  pub stands : StandsAt ordered at b

-- latest is the least latest finish of the operations from this place on
pub record IsLatest (ordered : List Op) (place latest : ℕ) : Type 0 where
  pub op : Op
  pub there : StandsFrom ordered place op
  pub finish_is : latest_finish op ≡ latest
  pub least : (b : Op) → StandsFrom ordered place b → latest ≤ latest_finish b

-- the latest of each place
pub record AreLatest (ordered : List Op) (latest : List ℕ) : Type 0 where
  pub as_many : length latest ≡ length ordered
  pub each : (place tick : ℕ) → StandsAt latest place tick → IsLatest ordered place tick

-- tick is the lesser of the earliest start of the operation at this place and of its latest
pub record IsOwnTick (ordered : List Op) (place tick : ℕ) : Type 0 where
  pub op : Op
  pub stands : StandsAt ordered place op
  pub latest : ℕ
  pub latest_is : IsLatest ordered place latest
  pub lesser : tick ≡ min (earliest_start op) latest

-- moment is the greatest of these ticks up to this place
pub record IsMoment (ordered : List Op) (place moment : ℕ) : Type 0 where
  pub at : ℕ
  pub up_to : at ≤ place
  pub reached : IsOwnTick ordered at moment
  pub greatest : (earlier tick : ℕ) → earlier ≤ place → IsOwnTick ordered earlier tick → tick ≤ moment

-- the moment of each operation, in the order of the operations
pub record AreMoments (ordered : List Op) (moments : List ℕ) : Type 0 where
  pub as_many : length moments ≡ length ordered
  pub each : (place moment : ℕ) → StandsAt moments place moment → IsMoment ordered place moment
