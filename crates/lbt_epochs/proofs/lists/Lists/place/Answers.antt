use Rattle.std.proofs.Common.{arith}
use Rattle.model_laws.proofs.Tests.{contains_has}
use Rattle.lbt_epochs.proofs.ListsKept.{node_within, room_for, AreKept-push}
use Rattle.lbt_epochs.proofs.lists.Lists.place.Goals as goal

pub take-requires : goal.take-requires
take-requires c =
    let h = rw (← c.self.view_is) at c.requires in
    node_within _ _ _ _ c.args.at c.self.invariant.taken c.self.invariant.candidates (contains_has _ _ h)

pub take-requires-2 : goal.take-requires-2
take-requires-2 c =
    let h = rw (← c.self.view_is) at c.requires in
    node_within _ _ _ _ c.args.at c.self.invariant.taken c.self.invariant.writes (contains_has _ _ h)

pub take-requires-3 : goal.take-requires-3
take-requires-3 c =
    let h = rw (← c.self.view_is) at c.requires in
    node_within _ _ _ _ c.args.at c.self.invariant.taken c.self.invariant.reads (contains_has _ _ h)

pub push_reserved-requires : goal.push_reserved-requires
push_reserved-requires c =
    let h = rw (← c.self.view_is) at c.requires in
    let r = room_for _ _ _ _ _ c.args.at c.self.invariant (contains_has _ _ h) in
    omega arith

pub invariant_of-self : goal.invariant_of-self
invariant_of-self c =
    let h = rw (← c.self.view_is) at c.requires in
    rw (c.push_reserved.ensures.items, c.push_reserved.ensures.capacity, c.take.ensures, c.take-2.ensures, c.take-3.ensures)
    (AreKept-push _ _ _ _ _ c.args.at c.self.invariant (contains_has _ _ h))
