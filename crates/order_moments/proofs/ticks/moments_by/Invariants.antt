use Rattle.std.proofs.Common.{◌≡◌, ℕ, length}
use Rattle.stale_model.specs.Orders.{StandsAt}
use Rattle.order_moments.specs.Moments.{IsMoment}
use Rattle.order_moments.proofs.OwnTicks.{IsGreatestBefore}
use Rattle.order_moments.proofs.ticks.moments_by.Given as goal

abbrev pub invariant-loop-place : goal.invariant-loop-place
invariant-loop-place l = record {
  many : length l.moments.items ≡ l.place;
  before : IsGreatestBefore l.ordered l.place l.moment;
  each : (place tick : ℕ) → StandsAt l.moments.items place tick → IsMoment l.ordered place tick;
}
