use Rattle.zones.proofs.Existence.{pairs_exist}
use Rattle.zones.proofs.laws.pairs_exist.Goals as goal

pub returns : goal.returns
returns c = pairs_exist
