use Rattle.std.proofs.Common.{ℕ, List, reverse, map, Some, sym, ◌∙◌, ap}
use Rattle.stale_model.specs.declared.Two.TheVariants.{Yes}
use Rattle.lbt_epochs.specs.Lists.{cluster_at}
use Rattle.lbt_epochs.proofs.WritesOfPlaces.{writes_turned}
use Rattle.lbt_epochs.proofs.epochs.answer.Goals as goal

pub returns-in_ok-writes_reversed-in-AllPlaced : goal.returns-in_ok-writes_reversed-in-AllPlaced
returns-in_ok-writes_reversed-in-AllPlaced c =
    let written = c.in_ok-writes_reversed-in-AllPlaced.ensures ∙ ap (λ (places : List ℕ). reverse (map (λ at. (cluster_at c.args.clusters.now at).write) places)) c.placed.ensures in
    c.in-AllPlaced.ensures.answer ∙ ap (λ (writes : List ℕ). Some (Yes writes)) (sym (written ∙ writes_turned c.args.clusters.now c.place_all.new.lists.placed))
