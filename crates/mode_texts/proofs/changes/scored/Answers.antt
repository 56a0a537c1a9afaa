-- The operations in the order in which they finish can be fed.
use Rattle.mode_texts.proofs.Feeding.{sorted_can_be_fed, sorted_are_few, is_scored}
use Rattle.mode_texts.proofs.changes.scored.Goals as goal

pub changes_along-requires-clause-can : goal.changes_along-requires-clause-can
changes_along-requires-clause-can c =
    sorted_can_be_fed c.args.key.now c.as_slice-ops.result.now c.in-Ok.sorted.items c.requires.valid c.as_slice-ops.ensures c.in-Ok.ensures
    c.as_slice.result.now c.as_slice.ensures.value c.greatest_value.result c.requires.once c.greatest_value.ensures

pub changes_along-requires-clause-few : goal.changes_along-requires-clause-few
changes_along-requires-clause-few c =
    sorted_are_few c.args.key.now c.as_slice-ops.result.now c.in-Ok.sorted.items c.requires.valid c.as_slice-ops.ensures c.in-Ok.ensures c.as_slice.result.now c.as_slice.ensures.value

pub returns : goal.returns
returns c =
    is_scored c.args.key.now c.as_slice-ops.result.now c.in-Ok.sorted.items c.requires.valid c.as_slice-ops.ensures c.in-Ok.ensures c.as_slice.result.now c.as_slice.ensures.value
    c.in_ok-fed.fed.changes.items c.from_vec.result c.in_ok-fed.fed.waiting c.requires.once c.in_ok-fed.ensures.changes c.in_ok-fed.ensures.waiting c.from_vec.ensures
