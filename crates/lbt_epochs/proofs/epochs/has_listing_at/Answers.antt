use Rattle.std.proofs.Common.{refl}
use Rattle.lbt_epochs.proofs.ToldListings.{placed_are_listed, stopped_are_not_listed}
use Rattle.lbt_epochs.proofs.epochs.has_listing_at.Goals as goal

pub returns-in-AllPlaced-clause-tells : goal.returns-in-AllPlaced-clause-tells
returns-in-AllPlaced-clause-tells c =
    let listing = placed_are_listed c.args.d c.args.clusters.now c.args.lists.now c.requires.lists c.requires.differ c.requires.unplaced c.place_all-ended.new.lists c.in-AllPlaced.ensures in
    (λ yes. listing, λ has. refl)

pub returns-in_default-clause-tells : goal.returns-in_default-clause-tells
returns-in_default-clause-tells c =
    let none = stopped_are_not_listed c.args.d c.args.clusters.now c.args.lists.now c.requires.lists c.requires.differ c.requires.unplaced c.in_default.field-0 c.place_all-ended.new.lists c.in_default.ensures in
    (λ yes. cc, λ has. absurd (none has))
