-- What the order of operations of a listing is (after Golab, Hurwitz and Li 2013).
use Rattle.std.specs.Prelude.{ℕ, List}
use Rattle.stale_model.specs.declared.KeyOps.{KeyOps}
use Rattle.stale_model.specs.declared.Cluster.{Cluster}
use Rattle.stale_model.specs.Operations.{operations}
use Rattle.stale_model.specs.Valid.{IsValidKey}
use Rattle.stale_model.specs.Faults.{IsClearKey}
use Rattle.stale_model.specs.Clusters.{writes_of, AreClusters}
use Rattle.stale_model.specs.Listings.{IsListing}
use Rattle.stale_model.specs.Orders.{IsOrder}
use Rattle.stale_model.specs.OperationOrders.{IsOperationOrder}

-- where clusters are listed at d, the operations in the order of the listing are an order with k = 2 at d
abbrev pub ListingsAreOrders : Type 0
ListingsAreOrders = (key : KeyOps) (d : ℕ) (clusters listing : List Cluster) (order : List ℕ) → IsValidKey key → IsClearKey (operations key)
    → AreClusters (operations key) clusters → IsListing d clusters listing
    → IsOperationOrder (operations key) d 2 (writes_of listing) order → IsOrder (operations key) d 2 order
