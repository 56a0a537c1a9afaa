-- What there is for any operations and clusters.
use Rattle.std.specs.Prelude.{ℕ, ◌≤◌, List, All}
use Rattle.stale_model.specs.declared.Op.{Op}
use Rattle.stale_model.specs.declared.Cluster.{Cluster}
use Rattle.stale_model.specs.Clusters.{WriteRecordsDiffer}
use Rattle.stale_model.specs.OperationOrders.{IsOperationOrder}
use Rattle.delta_score.specs.Scores.{IsLeastWithoutConflict}

-- there is an order of any operations by any list of writes
abbrev pub OperationOrdersExist : Type 0
OperationOrdersExist = (ops : List Op) (d k : ℕ) (writes : List ℕ) → (order : List ℕ) × IsOperationOrder ops d k writes order

-- there is a least d without conflict, where write records differ and in each cluster the write starts no later than the first operation finishes
abbrev pub LeastDeltasExist : Type 0
LeastDeltasExist = (clusters : List Cluster) → WriteRecordsDiffer clusters → All (λ c. c.w ≤ c.f) clusters → (delta : ℕ) × IsLeastWithoutConflict clusters delta
