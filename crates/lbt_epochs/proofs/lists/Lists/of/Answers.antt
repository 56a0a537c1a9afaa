use Rattle.stale_model.specs.Chains.{candidate_order}
use Rattle.lbt_epochs.specs.Lists.{late_write_order, late_read_order}
use Rattle.lbt_epochs.proofs.SortedPlaces.{places_apart, places_below, kept_none}
use Rattle.lbt_epochs.proofs.lists.Lists.of.Goals as goal

pub of-requires-clause-below : goal.of-requires-clause-below
of-requires-clause-below c = rw (c.deref.ensures.value)
    (places_below c.args.clusters.now _ candidate_order c.in_ok-candidates.candidates.items c.in_ok-candidates.ensures)

pub of-requires-clause-apart : goal.of-requires-clause-apart
of-requires-clause-apart c = rw (c.deref.ensures.value)
    (places_apart c.args.clusters.now _ candidate_order c.in_ok-candidates.candidates.items c.in_ok-candidates.ensures)

pub of-requires-2-clause-below : goal.of-requires-2-clause-below
of-requires-2-clause-below c = rw (c.deref-2.ensures.value)
    (places_below c.args.clusters.now _ late_write_order c.in_ok-writes.writes.items c.in_ok-writes.ensures)

pub of-requires-2-clause-apart : goal.of-requires-2-clause-apart
of-requires-2-clause-apart c = rw (c.deref-2.ensures.value)
    (places_apart c.args.clusters.now _ late_write_order c.in_ok-writes.writes.items c.in_ok-writes.ensures)

pub of-requires-3-clause-below : goal.of-requires-3-clause-below
of-requires-3-clause-below c = rw (c.deref-3.ensures.value)
    (places_below c.args.clusters.now _ late_read_order c.in_ok-reads.reads.items c.in_ok-reads.ensures)

pub of-requires-3-clause-apart : goal.of-requires-3-clause-apart
of-requires-3-clause-apart c = rw (c.deref-3.ensures.value)
    (places_apart c.args.clusters.now _ late_read_order c.in_ok-reads.reads.items c.in_ok-reads.ensures)

pub invariant_of-result : goal.invariant_of-result
invariant_of-result c =
    rw (c.in_ok-placed.ensures.items)
    (kept_none c.args.clusters.now candidate_order c.in_ok-candidates.candidates.items c.in_ok-writes.writes.items c.in_ok-reads.reads.items _ _ _ _
    c.in_ok-candidates.ensures
    (rw (← c.deref.ensures.value) c.in_ok-by_candidate.ensures) (rw (← c.deref-2.ensures.value) c.in_ok-by_write.ensures)
    (rw (← c.deref-3.ensures.value) c.in_ok-by_read.ensures)
    c.in_ok-placed.ensures.capacity)
