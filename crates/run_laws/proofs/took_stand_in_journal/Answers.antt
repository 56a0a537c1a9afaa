use Rattle.run_laws.proofs.Senders.{took_stand_in_journal}
use Rattle.run_laws.proofs.took_stand_in_journal.Goals as goal

pub returns : goal.returns
returns c = took_stand_in_journal
