-- A note that goes to every replica: one more.
use Rattle.std.proofs.Common.{[], ◌∷◌, arith}
use Rattle.std.proofs.lemmas.Grind.{common_steps}
use Rattle.std.proofs.lemmas.List.Edits.{map_over_more}
use Rattle.quorum_client.specs.Routes.{with_sent}
use Rattle.quorum_client.proofs.letters.send_all.Goals as goal

pub loop-route-preserved : goal.loop-route-preserved
loop-route-preserved g c = grind (arith, common_steps, map_over_more (with_sent (c.args.note ∷ [])))
