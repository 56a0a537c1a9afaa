use Rattle.delta_score.proofs.Ordered.{matched_keys_are_orderable}
use Rattle.delta_score.proofs.zone_laws.matched_keys_are_orderable.Goals as goal

pub returns : goal.returns
returns c = matched_keys_are_orderable
