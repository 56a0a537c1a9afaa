use Rattle.std.proofs.Common.{List, subst}
use Rattle.stale_model.specs.declared.Op.{Op}
use Rattle.stale_model.specs.Operations.{operations}
use Rattle.cert_checker.specs.Steps.{IsWalk, IsKnown, FindsUnmarked}
use Rattle.cert_checker.proofs.Marks.{listed_from_marks}
use Rattle.cert_checker.proofs.orders.listing.Goals as goal

pub returns-in-None : goal.returns-in-None
returns-in-None c =
    let ops : List Op = operations c.args.key.now in
    let walk = rw c.in_ok-rec.was at c.follow.ensures in
    let known : IsKnown ops c.args.order.now c.follow.new.ops.items c.follow.new.marks.items =
    subst (IsWalk ops c.args.order.now c.follow.new.ops.items c.follow.new.marks.items) c.in-None.is walk in
    listed_from_marks c.args.key.now c.args.order.now c.follow.new.ops.items c.follow.new.marks.items c.first_unmarked.result c.requires known
    (subst (λ m. FindsUnmarked ops m c.first_unmarked.result) c.as_slice.ensures.value c.first_unmarked.ensures)
