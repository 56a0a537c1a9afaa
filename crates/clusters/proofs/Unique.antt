-- Sortings are determined by the operations.
use Rattle.std.proofs.Common.{ap}
use Rattle.stale_model.specs.Faults.{IsDuplicate, IsUnmatched, IsEarly}
use Rattle.stale_model.proofs.LeastRecords.{same_record, not_none}
use Rattle.clusters.specs.declared.Sorted.TheVariants.{Duplicate, Unmatched, Early, Clear}
use Rattle.clusters.specs.Laws.{SortingsAreOne}
use Rattle.stale_model.proofs.ClustersOne.{clusters_are_one}

pub sortings_are_one : SortingsAreOne
sortings_are_one ops (Duplicate x) (Duplicate y) p q = ap Duplicate (same_record (IsDuplicate ops) x y p q)
sortings_are_one ops (Duplicate x) (Unmatched y) p q = absurd (not_none (IsDuplicate ops) x p q.no_duplicate)
sortings_are_one ops (Duplicate x) (Early y ds) p q = absurd (not_none (IsDuplicate ops) x p q.0.matched.no_duplicate)
sortings_are_one ops (Duplicate x) (Clear ds) p q = absurd (not_none (IsDuplicate ops) x p q.0.matched.no_duplicate)
sortings_are_one ops (Unmatched x) (Duplicate y) p q = absurd (not_none (IsDuplicate ops) y q p.no_duplicate)
sortings_are_one ops (Unmatched x) (Unmatched y) p q = ap Unmatched (same_record (IsUnmatched ops) x y p.unmatched q.unmatched)
sortings_are_one ops (Unmatched x) (Early y ds) p q = absurd (not_none (IsUnmatched ops) x p.unmatched q.0.matched.no_unmatched)
sortings_are_one ops (Unmatched x) (Clear ds) p q = absurd (not_none (IsUnmatched ops) x p.unmatched q.0.matched.no_unmatched)
sortings_are_one ops (Early x cs) (Duplicate y) p q = absurd (not_none (IsDuplicate ops) y q p.0.matched.no_duplicate)
sortings_are_one ops (Early x cs) (Unmatched y) p q = absurd (not_none (IsUnmatched ops) y q.unmatched p.0.matched.no_unmatched)
sortings_are_one ops (Early x cs) (Early y ds) p q =
    let e = same_record (IsEarly ops) x y p.0.early q.0.early in
    let f = clusters_are_one ops cs ds p.1 q.1 in
    cc
sortings_are_one ops (Early x cs) (Clear ds) p q = absurd (not_none (IsEarly ops) x p.0.early q.0.no_early)
sortings_are_one ops (Clear cs) (Duplicate y) p q = absurd (not_none (IsDuplicate ops) y q p.0.matched.no_duplicate)
sortings_are_one ops (Clear cs) (Unmatched y) p q = absurd (not_none (IsUnmatched ops) y q.unmatched p.0.matched.no_unmatched)
sortings_are_one ops (Clear cs) (Early y ds) p q = absurd (not_none (IsEarly ops) y q.0.early p.0.no_early)
sortings_are_one ops (Clear cs) (Clear ds) p q = ap Clear (clusters_are_one ops cs ds p.1 q.1)
