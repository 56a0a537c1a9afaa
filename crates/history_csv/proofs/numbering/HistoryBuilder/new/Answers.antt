use Rattle.std.proofs.Common.{sym}
use Rattle.history_csv.proofs.HistoryFacts.{history-empty}
use Rattle.history_csv.proofs.numbering.HistoryBuilder.new.Goals as goal

pub returns : goal.returns
returns c = rw c.new.ensures.empty (sym history-empty)
