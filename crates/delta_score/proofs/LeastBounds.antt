-- Bounds of the least d without conflict.
use Rattle.std.proofs.Common.{◌≡◌, ℕ, ◌≤◌, List, inl, inr, subst, arith}
use Rattle.std.proofs.lemmas.Bool.{cases_lt}
use Rattle.stale_model.specs.declared.Cluster.{Cluster}
use Rattle.stale_model.specs.Zones.{HasNoConflict}
use Rattle.delta_score.specs.declared.least.Bounds.{Bounds}
use Rattle.delta_score.specs.Scores.{IsLeastWithoutConflict, AreBounds}

-- the low bound is not above the high one
pub low-le_high : (clusters : List Cluster) (bounds : Bounds) → AreBounds clusters bounds → bounds.low ≤ bounds.high
low-le_high clusters bounds b = elim (cases_lt bounds.high bounds.low) [
  | inl less ↦
      let (i, j, c) = b.below bounds.high less in
      absurd (b.above i j c.i_there c.j_there c.apart c.conflict)
  | inr le ↦ le
]

-- where the bounds meet, they are the least d
pub least_where_met : (clusters : List Cluster) (bounds : Bounds) → AreBounds clusters bounds → bounds.high ≤ bounds.low → IsLeastWithoutConflict clusters bounds.low
least_where_met clusters bounds b met =
    let le = low-le_high clusters bounds b in
    let same : bounds.high ≡ bounds.low = omega arith in
    record {
      apart = subst (λ (d : ℕ). HasNoConflict d clusters) same b.above;
      least = b.below;
    }
