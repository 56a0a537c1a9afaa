use Rattle.two_delta.proofs.PrintedShown.{printed_leasts_are_shown}
use Rattle.two_delta.proofs.least_laws.printed_leasts_are_shown.Goals as goal

pub returns : goal.returns
returns c = printed_leasts_are_shown
