-- The calls of one client more, and that the plan is whole.
use Rattle.std.proofs.Common.{rules, ◌≡◌, ℕ, List, [], ◌∷◌, ◌++◌, map, true, sym, ap, subst, arith, ◌∙◌}
use Rattle.std.specs.Prelude.{is_ok}
use Rattle.std.specs.List.{range_with_len}
use Rattle.std.proofs.lemmas.List.FromFn.{map-range_with_len_more}
use Rattle.stale_model.specs.declared.store.PlanCall.{PlanCall}
use Rattle.quorum_client.specs.Plans.{planned_calls, plan_for, IsWhole}
use Rattle.quorum_client.proofs.WholePlans.{whole-plan_for}
use Rattle.quorum_client.proofs.plan.plan_of.Goals as goal

pub loop-client-preserved : goal.loop-client-preserved
loop-client-preserved c =
    let client = c.loop-client.client in
    let of : ℕ → List PlanCall = planned_calls c.args.settings.now in
    let made : List (List PlanCall) = map of (range_with_len 0 client) in
    let went : is_ok c.push.result ≡ true = sym c.map_err-in-loop-client.ensures.variant ∙ ap is_ok c.in_ok-map_err.was in
    let pushed = rw went at c.push.ensures.items in
    record {
      made = pushed
          ∙ (ap (λ (lists : List (List PlanCall)). lists ++ c.in_ok-calls.calls ∷ []) c.loop-client.invariant.made
          ∙ (ap (λ (calls : List PlanCall). made ++ calls ∷ []) c.in_ok-calls.ensures.calls
          ∙ sym (map-range_with_len_more of 0 client client (omega arith))));
      drawn = c.in_ok-calls.ensures.words;
    }

pub returns-clause-whole : goal.returns-clause-whole
returns-clause-whole c =
    let made : record { clients = c.from_vec.result } ≡ plan_for c.args.settings.now = search rules in
    subst (IsWhole c.args.settings.now) (sym made) (whole-plan_for c.args.settings.now c.requires)
