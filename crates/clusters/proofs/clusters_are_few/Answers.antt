use Rattle.clusters.proofs.Existence.{clusters_are_few}
use Rattle.clusters.proofs.clusters_are_few.Goals as goal

pub returns : goal.returns
returns c = clusters_are_few
