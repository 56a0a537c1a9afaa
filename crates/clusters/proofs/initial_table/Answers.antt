use Rattle.std.proofs.Common.{rules}
use Rattle.clusters.proofs.Growing.{IsTable-start}
use Rattle.clusters.proofs.initial_table.Goals as goal

pub returns : goal.returns
returns c = IsTable-start _ _ _ (search rules) c.lone_cluster.ensures
