use Rattle.std.proofs.lemmas.Bool.{leb-true}
use Rattle.lbt_epochs.proofs.LeftAlone.{late_write_there}
use Rattle.lbt_epochs.proofs.candidates.writes_late.Goals as goal

pub returns-in-Some : goal.returns-in-Some
returns-in-Some c in_turn =
    late_write_there c.args.clusters.now c.args.lists.now c.requires c.args.f c.in-Some.write c.in-Some.ensures (leb-true c.in-Some.write.w c.in-Some.write.f in_turn)
