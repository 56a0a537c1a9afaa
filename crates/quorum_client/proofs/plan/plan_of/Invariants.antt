-- After the calls of so many clients, these and no others are made, and their words are drawn.
use Rattle.std.proofs.Common.{◌≡◌, ◌*◌, map}
use Rattle.std.specs.List.{range_with_len}
use Rattle.seeded_words.specs.Drawn.{HasDrawn}
use Rattle.quorum_client.specs.Plans.{planned_calls}
use Rattle.quorum_client.proofs.plan.plan_of.Given as goal

abbrev pub invariant-loop-client : goal.invariant-loop-client
invariant-loop-client l = record {
  made : l.clients.items ≡ map (planned_calls l.settings) (range_with_len 0 l.client);
  drawn : HasDrawn l.settings.seed (2 * (l.client * l.settings.calls)) l.words;
}
