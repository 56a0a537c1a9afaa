-- There is an operation order, and a least d without conflict.
use Rattle.std.proofs.Common.{◌≡◌, ◌⊎◌, ℕ, zero, suc, ◌<◌, ◌≤◌, List, refl, inl, inr, subst, arith}
use Rattle.std.specs.Prelude.{All, sum_by}
use Rattle.std.proofs.lemmas.Bool.{cases_eq}
use Rattle.std.proofs.lemmas.List.Sums.{get_or-le-sum_by}
use Rattle.stale_model.specs.declared.Cluster.{Cluster}
use Rattle.stale_model.specs.Operations.{records_of}
use Rattle.stale_model.specs.Clusters.{WriteRecordsDiffer}
use Rattle.stale_model.specs.Zones.{reads_start, HasNoConflict}
use Rattle.stale_model.specs.OperationOrders.{operation_order}
use Rattle.stale_model.proofs.Sorting.{sorted_there}
use Rattle.zones.specs.Conflicts.{HasConflict}
use Rattle.zones.proofs.Conflicts.{HasNoConflict-far}
use Rattle.zones.proofs.Existence.{none_or_pair}
use Rattle.model_laws.proofs.One.{operation_order-total}
use Rattle.delta_score.specs.Scores.{IsLeastWithoutConflict}
use Rattle.delta_score.specs.ExistenceLaws.{OperationOrdersExist, LeastDeltasExist}

pub operation_orders_exist : OperationOrdersExist
operation_orders_exist ops d k writes =
    let (sorted, each_once, up) = sorted_there (operation_order ops d k writes) (operation_order-total ops d k writes) ops in
    (records_of sorted, record { sorted = sorted; each_once = each_once; in_order = up; records = refl })

-- from this d on no two clusters are in conflict
no_conflict_far : (clusters : List Cluster) → All (λ c. c.w ≤ c.f) clusters → HasNoConflict (sum_by reads_start clusters) clusters
no_conflict_far clusters starts =
    HasNoConflict-far (sum_by reads_start clusters) clusters starts (λ k past within. let most = get_or-le-sum_by reads_start clusters k past within in omega arith)

-- there is a conflict at each d below n, or a least d without one
least_or_conflicts : (clusters : List Cluster) → WriteRecordsDiffer clusters → (n : ℕ) → ((delta : ℕ) × IsLeastWithoutConflict clusters delta) ⊎ ((e : ℕ) → e < n → HasConflict e clusters)
least_or_conflicts clusters differ zero = inr (λ e low. absurd (omega arith))
least_or_conflicts clusters differ (suc n) = elim (least_or_conflicts clusters differ n) [
  | inl least ↦ inl least
  | inr below ↦ elim (none_or_pair n clusters differ) [
    | inl none ↦ inl (n, record { apart = none; least = below })
    | inr (i, j, pair) ↦ inr (λ e low. elim (cases_eq e n) [
      | inl last ↦ subst (λ (d : ℕ). HasConflict d clusters) (let same : n ≡ e = omega arith in same) (i, j, pair.conflict)
      | inr apart ↦ below e (omega arith)
    ])
  ]
]

pub least_deltas_exist : LeastDeltasExist
least_deltas_exist clusters differ starts =
    let far = sum_by reads_start clusters in
    elim (least_or_conflicts clusters differ (suc far)) [
      | inl least ↦ least
      | inr below ↦
          let (i, j, c) = below far (omega arith) in
          absurd (no_conflict_far clusters starts i j c.i_there c.j_there c.apart c.conflict)
    ]
