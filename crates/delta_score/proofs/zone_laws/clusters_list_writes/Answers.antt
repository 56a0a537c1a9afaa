use Rattle.delta_score.proofs.ListedWrites.{clusters_list_writes}
use Rattle.delta_score.proofs.zone_laws.clusters_list_writes.Goals as goal

pub returns : goal.returns
returns c = clusters_list_writes
