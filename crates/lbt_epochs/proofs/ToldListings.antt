-- Whether clusters have a listing, by how their epochs end.
use Rattle.std.proofs.Common.{◌≡◌, ℕ, List, [], map, reverse}
use Rattle.std.specs.Prelude.{Some}
use Rattle.stale_model.specs.declared.Cluster.{Cluster}
use Rattle.stale_model.specs.declared.Two.{Two}
use Rattle.stale_model.specs.declared.Two.TheVariants.{Yes, No}
use Rattle.stale_model.specs.Chains.{IsAnswer, writes_of}
use Rattle.stale_model.specs.Clusters.{WriteRecordsDiffer}
use Rattle.lbt_epochs.specs.Lists.{Lists, cluster_at, AreListsOf}
use Rattle.lbt_epochs.specs.Steps.{clusters_left, epochs_of, HasPlacedAll, HasStopped}
use Rattle.lbt_epochs.specs.TwoLaws.{HasListing}
use Rattle.lbt_epochs.proofs.FirstCandidates.{candidates_are_left}
use Rattle.lbt_epochs.proofs.RefutedListings.{answers_tell_whether_listed}

module _ (d : ℕ) (clusters : List Cluster) (lists : Lists) (are : AreListsOf clusters lists) (differ : WriteRecordsDiffer clusters) (unplaced : lists.placed ≡ []) where
  -- what the epochs give is the answer
  pub given_is_answer : (two : Two) → epochs_of d clusters lists ≡ Some two → IsAnswer d clusters two
  given_is_answer two is = record { candidates = clusters_left clusters lists; order = candidates_are_left clusters lists are unplaced; answer = is }

  pub placed_are_listed : (new : Lists) → HasPlacedAll d clusters lists new → HasListing d clusters
  placed_are_listed new all =
      let two = Yes (writes_of (map (cluster_at clusters) (reverse new.placed))) in
      (answers_tell_whether_listed d clusters two differ (given_is_answer two all.answer)).0 tt

  pub stopped_are_not_listed : (room : ℕ) (new : Lists) → HasStopped d clusters room lists new → HasListing d clusters → ⊥
  stopped_are_not_listed room new stopped listed =
      let two = No (record { stuck = writes_of (clusters_left clusters new); tries = stopped.stuck.tries }) in
      (answers_tell_whether_listed d clusters two differ (given_is_answer two (stopped.answer stopped.stuck.tries stopped.stuck.round_is))).1 listed
