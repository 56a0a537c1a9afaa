use Rattle.std.proofs.Common.{◌≡◌, ℕ, ◌≤◌, length}
use Rattle.stale_model.specs.Orders.{StandsAt}
use Rattle.order_moments.specs.Moments.{IsLatest}
use Rattle.order_moments.proofs.Latest.{IsLeastFrom}
use Rattle.order_moments.proofs.ticks.latest_finishes.Given as goal

abbrev pub invariant-loop-place : goal.invariant-loop-place
invariant-loop-place l = record {
  many : length l.latest.items ≡ length l.ordered;
  least : IsLeastFrom l.ordered l.place l.least;
  past : length l.ordered ≤ l.place → l.least ≡ 18446744073709551615;
  each : (place tick : ℕ) → l.place ≤ place → StandsAt l.latest.items place tick → IsLatest l.ordered place tick;
}
