-- The lanes of the clients so far, and what is left of the budget.
use Rattle.std.proofs.Common.{◌≡◌, ◌<◌, ◌≤◌, ℕ, [], slice_index_or, vec_len, length, drop}
use Rattle.ticket_clock.specs.Seats.{times}
use Rattle.key_recorder.specs.Recorders.{PassView}
use Rattle.key_recorder.specs.Prepared.{budget_on, budgets_on}
use Rattle.key_recorder.specs.Making.{first_lane, with_lane}
use Rattle.key_recorder.proofs.prepare.give_senders.Given as goal

abbrev pub invariant-loop-client : goal.invariant-loop-client
invariant-loop-client g l = record {
  many : vec_len l.passes ≡ length l.plans;
  whole : l.whole ≡ record l.fn.whole { budget = l.whole.budget; numbers = l.whole.numbers };
  numbers : (s : ℕ) → l.client ≤ s → times s l.whole.numbers ≡ 0;
  budget : l.whole.budget ≡ budgets_on l.shards l.shard (drop l.client l.plans);
  done : (c : ℕ) (p : PassView) → c < l.client → slice_index_or l.passes.items c p
      ≡ with_lane (first_lane l.post (budget_on l.shards l.shard (slice_index_or l.plans c []))) (slice_index_or l.fn.passes.items c p);
  rest : (c : ℕ) (p : PassView) → l.client ≤ c → c < length l.plans → slice_index_or l.passes.items c p ≡ slice_index_or l.fn.passes.items c p;
}
