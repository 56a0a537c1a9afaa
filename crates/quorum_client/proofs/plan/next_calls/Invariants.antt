-- After k calls of a client, these and no others are made, and their words are drawn.
use Rattle.std.proofs.Common.{◌≡◌, ◌+◌, ◌*◌, map}
use Rattle.std.specs.List.{range_with_len}
use Rattle.seeded_words.specs.Drawn.{HasDrawn}
use Rattle.quorum_client.specs.Plans.{planned_call}
use Rattle.quorum_client.proofs.plan.next_calls.Given as goal

abbrev pub invariant-loop-k : goal.invariant-loop-k
invariant-loop-k l = record {
  made : l.calls.items ≡ map (λ k. planned_call l.settings (l.before + k)) (range_with_len 0 l.k);
  drawn : HasDrawn l.settings.seed (2 * (l.before + l.k)) l.words;
}
