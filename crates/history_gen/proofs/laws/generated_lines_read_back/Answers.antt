use Rattle.history_gen.proofs.ReadsBack.{lines_read_back}
use Rattle.history_gen.proofs.laws.generated_lines_read_back.Goals as goal

pub returns : goal.returns
returns c = lines_read_back
