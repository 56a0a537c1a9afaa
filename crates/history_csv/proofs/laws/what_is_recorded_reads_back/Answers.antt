use Rattle.history_csv.proofs.ReadsBack.{recorded_reads_back}
use Rattle.history_csv.proofs.laws.what_is_recorded_reads_back.Goals as goal

pub returns : goal.returns
returns c = recorded_reads_back
