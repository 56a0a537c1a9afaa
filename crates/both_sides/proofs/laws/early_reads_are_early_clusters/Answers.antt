use Rattle.both_sides.proofs.EarlyClusters.{early_reads_are_early_clusters}
use Rattle.both_sides.proofs.laws.early_reads_are_early_clusters.Goals as goal

pub returns : goal.returns
returns c = early_reads_are_early_clusters
