-- The clients that are left, and the number of the next.
use Rattle.bench_run.proofs.Told.{AreReady}
use Rattle.bench_run.proofs.starts.say_all_done.Given as goal

abbrev pub invariant-loop-parts : goal.invariant-loop-parts
invariant-loop-parts g l = record {
  can_next : (goal.iterator-loop-parts g).can_next l.parts-iterator;
  is_finite : (goal.iterator-loop-parts g).is_finite l.parts-iterator;
  ready : AreReady l.parts-iterator.b.start l.parts-iterator.a.rest.items;
}
