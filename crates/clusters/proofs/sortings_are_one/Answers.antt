use Rattle.clusters.proofs.Unique.{sortings_are_one}
use Rattle.clusters.proofs.sortings_are_one.Goals as goal

pub returns : goal.returns
returns c = sortings_are_one
