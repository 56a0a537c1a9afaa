use Rattle.std.proofs.Common.{◌<◌, refl, sym, arith}
use Rattle.trace_check.proofs.Tickets.{none_read, more_read}
use Rattle.trace_check.proofs.lines.tickets.taken_of.Goals as goal

pub loop-part-init : goal.loop-part-init
loop-part-init c =
    rw (c.alone.ensures, c.alone-took.ensures)
    (more_read c.args.field.now _ 0 c.in_ok-tick_of.field-0 _ _ _ (none_read c.args.field.now _ c.first_part.ensures.part) refl (sym c.in_ok-tick_of.ensures) (omega arith))

pub loop-part-preserved : goal.loop-part-preserved
loop-part-preserved c =
    let few : c.loop-part.count < 7 = omega (arith, c.loop-part.invariant.few) in
    rw c.alone-in-Some.ensures
    (more_read c.args.field.now c.loop-part.took c.loop-part.count c.in_ok-tick_of-2.field-0 _ _ _ c.loop-part.invariant c.in-Some.ensures.some (sym c.in_ok-tick_of-2.ensures) few)
