use Rattle.std.proofs.Common.{List, rules, subst}
use Rattle.std.specs.Ordering.{is_lt}
use Rattle.std.specs.List.Sorted.{IsPermutation}
use Rattle.std.proofs.lemmas.Fn.{always_returns_same}
use Rattle.std.proofs.lemmas.Result.{IfOk-weaker}
use Rattle.std.proofs.lemmas.List.Sorted.{ranks_by, All-permutation}
use Rattle.zones.specs.declared.standings.Standing.{Standing}
use Rattle.zones.specs.Standings.{standing_order, standings_of}
use Rattle.zones.proofs.Placed.{IsPlaced, standing_order-total, all_placed, zone_order_from_places}
use Rattle.zones.proofs.standings.in_zone_order.Goals as goal

pub clusters_at-requires : goal.clusters_at-requires
clusters_at-requires c =
    let d = c.args.d in
    let clusters = c.args.clusters.now in
    let sorted = c.sort_by.new.self.items in
    let each_once = subst (λ (xs : List Standing). IsPermutation xs sorted) c.in_ok-standings.ensures c.sort_by.ensures.permutation in
    rw c.deref.ensures.value (λ k e within. (All-permutation (IsPlaced d clusters) (standings_of d clusters) sorted each_once (all_placed d clusters) k e within).within)

pub returns : goal.returns
returns c =
    let d = c.args.d in
    let clusters = c.args.clusters.now in
    let standings = c.sort_by.new.self.items in
    let each_once = subst (λ (xs : List Standing). IsPermutation xs standings) c.in_ok-standings.ensures c.sort_by.ensures.permutation in
    let sorted = c.in_ok-sort_by.ensures.sorted (λ x y. is_lt (standing_order x y)) (ranks_by standing_order-total (λ x. x)) (always_returns_same _ _ _ (λ a r f k. search rules)) in
    IfOk-weaker c.clusters_at.result _ _ (λ zones at. zone_order_from_places d clusters standings zones.items each_once sorted (rw c.deref.ensures.value at at)) c.clusters_at.ensures
