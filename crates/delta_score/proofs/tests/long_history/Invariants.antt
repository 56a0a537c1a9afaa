use Rattle.std.proofs.Common.{◌≡◌, ℕ, ◌*◌, ◌<◌, ◌≤◌, get_or, vec_len}
use Rattle.std.specs.Prelude.{All}
use Rattle.stale_model.specs.Clusters.{writes_of}
use Rattle.delta_score.proofs.tests.long_history.Given as goal

abbrev pub invariant-loop-i : goal.invariant-loop-i
invariant-loop-i l =
    (vec_len l.history ≡ l.i) × ((k : ℕ) → k < l.i → get_or (writes_of l.history.items) k 0 ≡ 2 * k) × All (λ c. c.w ≤ c.f) l.history.items
