use Rattle.element_text.proofs.ReadsBack.{reads_back}
use Rattle.element_text.proofs.laws.what_is_written_reads_back.Goals as goal

pub returns : goal.returns
returns c = reads_back
