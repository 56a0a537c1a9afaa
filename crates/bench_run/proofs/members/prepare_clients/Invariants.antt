-- The parts of the clients so far.
use Rattle.std.proofs.Common.{◌≡◌, ◌++◌, length}
use Rattle.std.specs.Vec.Iter.{into_iter_items, into_iter_len}
use Rattle.bench_run.proofs.MoreMembers.{HasClients}
use Rattle.bench_run.proofs.members.prepare_clients.Given as goal

abbrev pub invariant-loop-calls : goal.invariant-loop-calls
invariant-loop-calls g l = record {
  yielded : l.yielded ++ into_iter_items l.calls-iterator ≡ l.fn.plan.clients;
  ends : into_iter_len l.calls-iterator ≡ length (into_iter_items l.calls-iterator);
  so_far : HasClients l.settings l.clock l.fn.seat l.seat l.fn.boxes.items l.boxes.items l.yielded l.inboxes.items l.clients.items;
}
