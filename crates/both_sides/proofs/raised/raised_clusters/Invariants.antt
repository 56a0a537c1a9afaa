use Rattle.std.proofs.Common.{◌≡◌, take}
use Rattle.both_sides.specs.Raised.{raised_clusters}
use Rattle.both_sides.proofs.raised.raised_clusters.Given as goal

abbrev pub invariant-loop-cluster : goal.invariant-loop-cluster
invariant-loop-cluster l = l.raised.items ≡ raised_clusters l.t (take l.cluster-index l.clusters)
