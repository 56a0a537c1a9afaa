use Rattle.lbt_epochs.proofs.ListsKept.{placed_within, AreKept-front}
use Rattle.lbt_epochs.proofs.lists.Lists.undo.Goals as goal

pub put_back-requires : goal.put_back-requires
put_back-requires c = placed_within _ _ _ _ _ c.in-Some.at c.in-Some.ensures.items c.self.invariant.taken c.self.invariant.candidates

pub put_back-requires-2 : goal.put_back-requires-2
put_back-requires-2 c = placed_within _ _ _ _ _ c.in-Some.at c.in-Some.ensures.items c.self.invariant.taken c.self.invariant.writes

pub put_back-requires-3 : goal.put_back-requires-3
put_back-requires-3 c = placed_within _ _ _ _ _ c.in-Some.at c.in-Some.ensures.items c.self.invariant.taken c.self.invariant.reads

pub invariant_of-self : goal.invariant_of-self
invariant_of-self c =
    rw (c.in-Some.ensures.capacity, c.put_back.ensures, c.put_back-2.ensures, c.put_back-3.ensures)
    (AreKept-front _ _ _ _ _ _ c.in-Some.at c.in-Some.ensures.items c.self.invariant)
