use Rattle.audit_workers.proofs.Claimed.{keys_are_claimed_once}
use Rattle.audit_workers.proofs.keys_are_claimed_once.Goals as goal

pub returns : goal.returns
returns c = keys_are_claimed_once
