use Rattle.clusters.proofs.Existence.{sortings_exist}
use Rattle.clusters.proofs.sortings_exist.Goals as goal

pub returns : goal.returns
returns c = sortings_exist
