-- An order with k = 1 excludes conflicts and early reads.
use Rattle.std.proofs.Common.{arith}
use Rattle.stale_model.specs.Operations.{operations}
use Rattle.stale_model.specs.Zones.{four_of}
use Rattle.model_laws.proofs.Named.{matched_keys_name_their_writes}
use Rattle.model_laws.proofs.Early.{early_reads_exclude_orders}
use Rattle.model_laws.proofs.Conflicts.{four_exclude_orders}
use Rattle.model_laws.proofs.Between.{conflicts_hold}
use Rattle.delta_score.specs.ZoneLaws.{OrdersExcludeConflicts, OrdersOfAnyExcludeConflicts}

pub orders_of_any_exclude_conflicts : OrdersOfAnyExcludeConflicts
orders_of_any_exclude_conflicts ops d clusters names are (order, is) = record {
  no_early = λ r early. early_reads_exclude_orders ops 1 r names early d order is;
  no_conflict = λ i j ci cj apart conflict.
      let (v, is_i) = are.each i ci in
      let (w, is_j) = are.each j cj in
      four_exclude_orders ops d d (four_of d i j) names (conflicts_hold ops d v w i j names is_i is_j apart conflict) (omega arith) order is;
}

pub orders_exclude_conflicts : OrdersExcludeConflicts
orders_exclude_conflicts key d clusters valid matched are has =
    orders_of_any_exclude_conflicts (operations key) d clusters (matched_keys_name_their_writes key valid matched) are has
