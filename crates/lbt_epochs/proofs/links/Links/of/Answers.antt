use Rattle.std.proofs.Common.{◌≡◌, ◌-◌, length, arith}
use Rattle.std.proofs.lemmas.List.{take_all}
use Rattle.lbt_epochs.proofs.LinksMade.{ring_none, ring_more, place_within}
use Rattle.lbt_epochs.proofs.links.Links.of.Goals as goal

pub put_last-requires : goal.put_last-requires
put_last-requires c = place_within c.args.end c.args.order.now c.loop-at.links.next c.loop-at.at-index c.requires.below c.loop-at-test.true
    c.loop-at.invariant.next_nodes

pub loop-at-init : goal.loop-at-init
loop-at-init c = rw (c.in_ok-links.ensures) (ring_none c.args.end)

pub loop-at-preserved : goal.loop-at-preserved
loop-at-preserved c =
    let e : length c.loop-at.links.next - 1 ≡ c.args.end = omega arith in
    rw (c.put_last.ensures, e)
    (ring_more c.args.end _ c.args.order.now c.loop-at.links c.loop-at.at-index c.requires.below c.requires.apart c.loop-at-test.true
    c.loop-at.invariant)

pub returns : goal.returns
returns c = rw (← take_all c.loop-at.at-index c.args.order.now (omega arith)) c.loop-at.invariant
