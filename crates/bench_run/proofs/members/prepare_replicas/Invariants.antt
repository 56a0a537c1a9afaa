-- The parts of the replicas so far.
use Rattle.std.proofs.Common.{◌≡◌, ◌++◌, length, map}
use Rattle.std.specs.Arc.{arc_value}
use Rattle.std.specs.Vec.Iter.{into_iter_items, into_iter_len}
use Rattle.bench_run.specs.Openings.{boxes_of, first_taker}
use Rattle.bench_run.proofs.MoreMembers.{HasReplicas}
use Rattle.bench_run.proofs.members.prepare_replicas.Given as goal

abbrev pub invariant-loop-taker : goal.invariant-loop-taker
invariant-loop-taker g l = record {
  yielded : l.yielded ++ into_iter_items l.taker-iterator ≡ map first_taker (boxes_of l.boxes);
  ends : into_iter_len l.taker-iterator ≡ length (into_iter_items l.taker-iterator);
  many : length l.replicas.items ≡ length l.yielded;
  so_far : HasReplicas l.settings (arc_value l.clock) l.fn.seat l.seat l.boxes l.fn.inboxes.items l.inboxes.items l.replicas.items;
}
