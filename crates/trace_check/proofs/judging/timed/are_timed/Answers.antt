use Rattle.std.proofs.Common.{List, ℕ, sym, subst}
use Rattle.std.proofs.lemmas.Bool.{both_ways}
use Rattle.stale_model.specs.Orders.{IsWithoutRepeats}
use Rattle.trace_check.proofs.Groups.{timed_from_order, order_from_timed}
use Rattle.trace_check.proofs.judging.timed.are_timed.Goals as goal

pub returns-then-are_in_order : goal.returns-then-are_in_order
returns-then-are_in_order c =
    let clients = c.args.clients in
    let entries = c.args.entries.now in
    let groups = c.args.groups.now in
    let journals = c.args.journals.now in
    let order = c.are_in_order.ensures.0 c.if-are_in_order.true in
    let once = λ (ns : List ℕ). IsWithoutRepeats ns in (
      λ t. timed_from_order clients entries journals groups c.requires.groups c.requires.clients order (subst once c.in_ok-tickets.ensures (c.are_distinct.ensures.0 t)),
      λ h. c.are_distinct.ensures.1 (subst once (sym c.in_ok-tickets.ensures) h.once),
    )

pub returns-else-are_in_order : goal.returns-else-are_in_order
returns-else-are_in_order c = (
  λ t. absurd (both_ways c.are_in_order.result c.if-are_in_order.false t),
  λ h. c.are_in_order.ensures.1 (order_from_timed c.args.clients c.args.entries.now c.args.journals.now c.args.groups.now c.requires.groups h),
)
