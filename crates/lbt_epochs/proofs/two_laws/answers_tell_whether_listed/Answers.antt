use Rattle.lbt_epochs.proofs.RefutedListings.{answers_tell_whether_listed}
use Rattle.lbt_epochs.proofs.two_laws.answers_tell_whether_listed.Goals as goal

pub returns : goal.returns
returns c = answers_tell_whether_listed
