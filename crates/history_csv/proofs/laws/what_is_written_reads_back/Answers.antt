use Rattle.history_csv.proofs.ReadsBack.{reads_back}
use Rattle.history_csv.proofs.laws.what_is_written_reads_back.Goals as goal

pub returns : goal.returns
returns c = reads_back
