-- The boxes and the takers so far.
use Rattle.std.proofs.Common.{◌≡◌, length, map}
use Rattle.std.specs.Prelude.{All}
use Rattle.bench_run.specs.Openings.{boxes_of, first_taker, AreNotesGiven}
use Rattle.bench_run.proofs.routes.open_boxes.Given as goal

abbrev pub invariant-loop : goal.invariant-loop
invariant-loop g l = record {
  many : length l.boxes.items ≡ l.counter;
  boxes : All (AreNotesGiven 0 l.capacity) l.boxes.items;
  takers : l.takers.items ≡ map first_taker (boxes_of l.boxes.items);
}
