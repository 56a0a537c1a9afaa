use Rattle.history_csv.proofs.FewRecords.{within_bounds}
use Rattle.history_csv.proofs.laws.records_are_few.Goals as goal

pub returns : goal.returns
returns c = within_bounds
