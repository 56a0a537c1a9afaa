use Rattle.mode_texts.proofs.Leasts.{printed_listing_lists_writes, least_holds}
use Rattle.mode_texts.proofs.two.least_of.Goals as goal

pub least_two-requires : goal.least_two-requires
least_two-requires c = record { key = c.args.key.now; valid = c.requires.valid; clear = c.requires.clear; are = c.requires.clusters }

pub op_order-requires-clause-writes : goal.op_order-requires-clause-writes
op_order-requires-clause-writes c =
    rw c.as_slice.ensures (printed_listing_lists_writes c.args.key.now c.args.clusters.now c.requires.valid c.requires.clusters c.in_ok-least.least c.in_ok-least.ensures)

pub returns : goal.returns
returns c =
    let in_order = rw c.as_slice.ensures at c.in_ok-order.ensures.in_order in
    least_holds c.args.key.now c.args.clusters.now c.requires.valid c.requires.clusters c.requires.clear c.in_ok-least.least c.in_ok-order.order c.in_ok-least.ensures in_order
