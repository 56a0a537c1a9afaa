-- A letter that goes to every shard: one more.
use Rattle.std.proofs.Common.{◌<◌, length, ap, sym, ◌∙◌, arith, slice_set}
use Rattle.std.specs.Arc.{arc_value}
use Rattle.std.proofs.lemmas.List.Edits.{map_over_more}
use Rattle.key_recorder.specs.declared.pass.Lane.{Lane}
use Rattle.key_recorder.specs.Passes.{sent_on}
use Rattle.key_recorder.proofs.Lanes.{not_reached, as_many_boxes, box_at}
use Rattle.key_recorder.proofs.pass.send_on_all.Goals as goal

pub send_on-requires-clause-own : goal.send_on-requires-clause-own
send_on-requires-clause-own g c =
    let lanes = c.args.lanes.now.items in
    let lane = c.index_mut.result.now in
    let many = as_many_boxes (λ b. arc_value b) lanes c.args.boxes.now c.requires.own in
    let less : c.loop-k.k < length lanes = omega (arith, many) in
    box_at (λ b. arc_value b) lanes c.args.boxes.now c.loop-k.k lane c.index-boxes-k.result c.requires.own less
    (not_reached (sent_on c.args.letter) lanes c.loop-k.lanes.items c.loop-k.k lane less c.loop-k.invariant c.index_mut.ensures.value)
    c.index-boxes-k.is
    ∙ sym c.deref.ensures

pub loop-k-preserved : goal.loop-k-preserved
loop-k-preserved g c =
    let lanes = c.args.lanes.now.items in
    let many = as_many_boxes (λ b. arc_value b) lanes c.args.boxes.now c.requires.own in
    let less : c.loop-k.k < length lanes = omega (arith, many) in
    ap (λ (y : Lane). slice_set c.loop-k.lanes.items c.loop-k.k y) c.send_on.ensures
    ∙ map_over_more (sent_on c.args.letter) lanes c.loop-k.lanes.items c.loop-k.k c.index_mut.result.now less c.loop-k.invariant c.index_mut.ensures.value
