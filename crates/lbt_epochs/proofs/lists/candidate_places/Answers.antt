use Rattle.std.proofs.Common.{rules, ℕ, List, map, refl, sym, ap, subst, ◌∙◌, true}
use Rattle.std.specs.List.Sorted.{IsPermutation}
use Rattle.std.specs.Ordering.{is_lt}
use Rattle.std.proofs.lemmas.Fn.{always_returns_same}
use Rattle.std.proofs.lemmas.List.Sorted.{ranks_by}
use Rattle.std.proofs.lemmas.Result.{IfOk-weaker}
use Rattle.stale_model.specs.Chains.{candidate_order}
use Rattle.lbt_epochs.specs.declared.keys.Key.{Key}
use Rattle.lbt_epochs.specs.Lists.{ArePlacesBy}
use Rattle.lbt_epochs.specs.Keys.{keys_of, falling_order}
use Rattle.lbt_epochs.proofs.TotalOrders.{falling_order-total}
use Rattle.lbt_epochs.proofs.KeyedPlaces.{sorted_places}
use Rattle.lbt_epochs.proofs.lists.candidate_places.Goals as goal

pub returns : goal.returns
returns c =
    let sorted = c.sort_unstable_by.ensures.sorted (λ x y. is_lt (falling_order x y)) (ranks_by falling_order-total (λ k. k)) (always_returns_same _ _ _ (λ a r f k. search rules)) in
    let permuted : IsPermutation (keys_of (λ c. true) (λ c. c.f) c.args.clusters.now) c.sort_unstable_by.new.self.items = rw (← c.in_ok-fill_by_finish.ensures) c.sort_unstable_by.ensures.permutation in
    let places = sorted_places c.args.clusters.now (λ c. c.f) (λ c. true) candidate_order falling_order (λ a b. refl) _ permuted sorted in
    IfOk-weaker c.places_in.result _ _ (λ found is. subst (λ (l : List ℕ). ArePlacesBy c.args.clusters.now (λ c. true) candidate_order l) (sym (is ∙ ap (map (λ (key : Key). key.at)) c.deref.ensures.value)) places) c.places_in.ensures
