-- The zone theorem.
use Rattle.stale_model.specs.Clusters.{writes_of}
use Rattle.stale_model.specs.Operations.{operations}
use Rattle.stale_model.proofs.ClustersOne.{cluster_writes_differ}
use Rattle.zones.proofs.Crossings.{no_crossing-from_no_conflict}
use Rattle.zones.proofs.Existence.{zone_orders_exist}
use Rattle.delta_score.specs.ZoneLaws.{ZoneTheorem, ZoneTheoremOfAny}
use Rattle.delta_score.proofs.Excluded.{orders_of_any_exclude_conflicts}
use Rattle.delta_score.proofs.Existence.{operation_orders_exist}
use Rattle.delta_score.proofs.Ordered.{matched_keys_are_orderable, zone_orders_of_any_are_orders}

pub zone_theorem_of_any : ZoneTheoremOfAny
zone_theorem_of_any ops d clusters able are = (
  λ has. orders_of_any_exclude_conflicts ops d clusters able.names are has,
  λ conflict_free.
      let (zones, zone_order) = zone_orders_exist d clusters in
      let (order, is) = operation_orders_exist ops d 1 (writes_of zones) in
      let free = no_crossing-from_no_conflict d clusters zones (cluster_writes_differ ops clusters are) zone_order conflict_free.no_conflict in
      (order, zone_orders_of_any_are_orders ops d clusters zones order able conflict_free.no_early are zone_order.each_once free is),
)

pub zone_theorem : ZoneTheorem
zone_theorem key d clusters valid matched are = zone_theorem_of_any (operations key) d clusters (matched_keys_are_orderable key valid matched) are
