use Rattle.lbt_epochs.proofs.two_laws.listings_are_answered.Goals as goal
use Rattle.lbt_epochs.proofs.ListedEpochs.{listings_are_answered}

-- src/two_laws.rt:5:1
pub returns : goal.returns
returns c = listings_are_answered
