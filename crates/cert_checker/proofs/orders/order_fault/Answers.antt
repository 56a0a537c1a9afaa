use Rattle.std.proofs.Common.{◌≡◌, ◌∙◌, List, Some, None, ap, subst}
use Rattle.stale_model.specs.declared.Op.{Op}
use Rattle.stale_model.specs.Operations.{operations, records_of}
use Rattle.cert_checker.specs.Steps.{IsListed}
use Rattle.cert_checker.proofs.WholeOrders.{order_from, none_for, returns_for}
use Rattle.cert_checker.proofs.orders.order_fault.Goals as goal

pub returns-in-Some-2 : goal.returns-in-Some-2
returns-in-Some-2 c =
    let ops : List Op = operations c.args.key.now in
    let all = rw c.in_ok-rec.was at c.listing.ensures in
    let (each_once, listed) = subst (IsListed ops c.args.order.now c.listing.new.lists.ops.items) c.in_default.is all in
    let returned = rw c.in_ok-rec-2.was at c.first_unreturned.ensures in
    let same : records_of c.as_slice-ops.result.now ≡ c.args.order.now = ap records_of c.as_slice-ops.ensures.value ∙ listed.records in
    record {
      each_once = each_once;
      no_backwards = none_for ops c.args.d c.args.order.now c.as_slice-ops.result.now c.first_backwards.result same c.in_default-first_backwards.is c.first_backwards.ensures;
      unreturned = returns_for ops c.args.k c.args.order.now c.as_slice-ops.result.now c.in_ok-rec-2.field-0 (Some c.in-Some-2.rec) same c.in-Some-2.is returned;
    }

pub returns-in-None : goal.returns-in-None
returns-in-None c =
    let ops : List Op = operations c.args.key.now in
    let all = rw c.in_ok-rec.was at c.listing.ensures in
    let (each_once, listed) = subst (IsListed ops c.args.order.now c.listing.new.lists.ops.items) c.in_default.is all in
    let returned = rw c.in_ok-rec-2.was at c.first_unreturned.ensures in
    let same : records_of c.as_slice-ops.result.now ≡ c.args.order.now = ap records_of c.as_slice-ops.ensures.value ∙ listed.records in
    order_from c.args.key.now c.requires.valid c.args.d c.args.k c.args.order.now each_once
    (none_for ops c.args.d c.args.order.now c.as_slice-ops.result.now c.first_backwards.result same c.in_default-first_backwards.is c.first_backwards.ensures)
    (returns_for ops c.args.k c.args.order.now c.as_slice-ops.result.now c.in_ok-rec-2.field-0 None same c.in-None.is returned)
