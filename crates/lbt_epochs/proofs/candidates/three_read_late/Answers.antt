use Rattle.std.proofs.Common.{sym, ◌∙◌}
use Rattle.lbt_epochs.proofs.LeftPlaces.{stands_within}
use Rattle.lbt_epochs.proofs.LeftAlone.{third_late_there}
use Rattle.lbt_epochs.proofs.candidates.three_read_late.Goals as goal

pub late_read-requires : goal.late_read-requires
late_read-requires c at e =
    stands_within c.args.clusters.now c.args.lists.now c.requires c.requires.lists_are.reads 2 at (sym e ∙ c.third_late_read-third.ensures)

pub returns : goal.returns
returns c some =
    third_late_there c.args.clusters.now c.args.lists.now c.requires c.args.d c.args.f c.third_late_read-third.result c.late_read.result c.third_late_read-third.ensures c.late_read.ensures.late
    (sym c.is_some.ensures ∙ some)
