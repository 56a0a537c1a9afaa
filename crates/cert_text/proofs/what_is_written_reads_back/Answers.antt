use Rattle.cert_text.proofs.ReadsBack.{reads_back}
use Rattle.cert_text.proofs.what_is_written_reads_back.Goals as goal

pub returns : goal.returns
returns c = reads_back
