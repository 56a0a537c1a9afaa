use Rattle.std.proofs.Common.{rules, ℕ, List, map, refl, sym, ap, subst, ◌∙◌, true}
use Rattle.std.specs.List.Sorted.{IsPermutation}
use Rattle.std.specs.Ordering.{is_lt}
use Rattle.std.proofs.lemmas.Fn.{always_returns_same}
use Rattle.std.proofs.lemmas.List.Sorted.{ranks_by}
use Rattle.std.proofs.lemmas.Result.{IfOk-weaker}
use Rattle.lbt_epochs.specs.declared.keys.Key.{Key}
use Rattle.lbt_epochs.specs.Lists.{ArePlacesBy, late_write_order}
use Rattle.lbt_epochs.specs.Keys.{keys_of, late_order}
use Rattle.lbt_epochs.proofs.TotalOrders.{late_order-total}
use Rattle.lbt_epochs.proofs.KeyedPlaces.{sorted_places}
use Rattle.lbt_epochs.proofs.lists.late_write_places.Goals as goal

pub returns : goal.returns
returns c =
    let sorted = c.sort_unstable_by.ensures.sorted (λ x y. is_lt (late_order x y)) (ranks_by late_order-total (λ k. k)) (always_returns_same _ _ _ (λ a r f k. search rules)) in
    let permuted : IsPermutation (keys_of (λ c. true) (λ c. c.w) c.args.clusters.now) c.sort_unstable_by.new.self.items = rw (← c.in_ok-fill_by_write.ensures) c.sort_unstable_by.ensures.permutation in
    let places = sorted_places c.args.clusters.now (λ c. c.w) (λ c. true) late_write_order late_order (λ a b. refl) _ permuted sorted in
    IfOk-weaker c.places_in.result _ _ (λ found is. subst (λ (l : List ℕ). ArePlacesBy c.args.clusters.now (λ c. true) late_write_order l) (sym (is ∙ ap (map (λ (key : Key). key.at)) c.deref.ensures.value)) places) c.places_in.ensures
