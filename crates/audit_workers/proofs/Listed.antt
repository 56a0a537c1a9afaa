-- What is answered for the clusters lists each write once.
use Rattle.std.proofs.Common.{ℕ, List}
use Rattle.stale_model.specs.declared.Op.{Op}
use Rattle.stale_model.specs.declared.Cluster.{Cluster}
use Rattle.stale_model.specs.Clusters.{AreClusters}
use Rattle.stale_model.specs.Orders.{ListsEachOnce}
use Rattle.delta_score.specs.WriteLists.{write_records}
use Rattle.delta_score.proofs.ListedWrites.{listing_lists_writes}
use Rattle.lbt_epochs.specs.TwoLaws.{AreListed}

-- what is answered for the clusters lists each write once
pub answer_lists_writes : (ops : List Op) (clusters : List Cluster) (writes : List ℕ) → AreClusters ops clusters → AreListed 0 clusters writes
    → ListsEachOnce (write_records ops) writes
answer_lists_writes ops clusters writes are listed = rw listed.writes_are at (listing_lists_writes ops clusters listed.listing are listed.is.each_once)
