-- What the clusters of a clear key are, as the calls that judge it ask for them.
use Rattle.std.proofs.Common.{ℕ, List, subst}
use Rattle.stale_model.specs.declared.Op.{Op}
use Rattle.stale_model.specs.declared.Cluster.{Cluster}
use Rattle.stale_model.specs.Faults.{IsClearKey}
use Rattle.stale_model.specs.Clusters.{AreClusters}
use Rattle.stale_model.specs.Orders.{ListsEachOnce}
use Rattle.stale_model.specs.OperationOrders.{IsOperationOrder}
use Rattle.stale_model.specs.PrintedVerdicts.{IsPrintedJudgement, IsPrintedTwo}
use Rattle.stale_model.specs.declared.TwoPart.{TwoPart}
use Rattle.zones.specs.Sweeps.{IsOrderOf}
use Rattle.delta_score.specs.declared.least.Least.{Least}
use Rattle.delta_score.specs.Scores.{IsLeast}
use Rattle.delta_score.specs.WriteLists.{write_records}
use Rattle.delta_score.proofs.ListedWrites.{clusters_list_writes}

module _ (ops : List Op) (clusters : List Cluster) (are : AreClusters ops clusters) where
  -- an order of the clusters lists each write once
  pub writes_listed : (d : ℕ) (order : List ℕ) → IsOrderOf d clusters order → ListsEachOnce (write_records ops) order
  writes_listed d order is = rw is.writes (clusters_list_writes ops clusters is.zones are is.zone_order.each_once)

  -- the least delta, the order of operations at it and the part on 2-atomicity are the judgement
  pub judged : IsClearKey ops → (least : Least) (order : List ℕ) (two : TwoPart) → IsLeast clusters least → IsOperationOrder ops least.delta 1 least.order order
      → IsPrintedTwo ops clusters two → IsPrintedJudgement ops (record { delta = least.delta; order = order; four = least.refuter; two = two })
  judged clear least order two is in_order is_two = record {
    clear = clear;
    clusters = clusters;
    are = are;
    no_conflict = is.delta.apart;
    order = record { zones = is.order.zones; zone_order = is.order.zone_order; operation_order = subst (λ (writes : List ℕ). IsOperationOrder ops least.delta 1 writes order) is.order.writes in_order };
    four = is.refuter;
    two = is_two;
  }
