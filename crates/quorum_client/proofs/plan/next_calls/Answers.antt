-- One call more of a client.
use Rattle.std.proofs.Common.{◌≡◌, ℕ, ◌+◌, ◌*◌, List, [], ◌∷◌, ◌++◌, map, true, sym, ap, subst, arith, ◌∙◌}
use Rattle.std.specs.Prelude.{is_ok}
use Rattle.std.specs.List.{range_with_len}
use Rattle.std.proofs.lemmas.List.FromFn.{map-range_with_len_more}
use Rattle.stale_model.specs.declared.store.PlanCall.{PlanCall}
use Rattle.seeded_words.specs.Drawn.{HasDrawn}
use Rattle.quorum_client.specs.Plans.{planned_call}
use Rattle.quorum_client.proofs.plan.next_calls.Goals as goal

pub loop-k-preserved : goal.loop-k-preserved
loop-k-preserved c =
    let k = c.loop-k.k in
    let at : ℕ → PlanCall = λ k. planned_call c.args.settings.now (c.args.client * c.args.settings.now.calls + k) in
    let made : List PlanCall = map at (range_with_len 0 k) in
    let went : is_ok c.push.result ≡ true = sym c.map_err-in-loop-k.ensures.variant ∙ ap is_ok c.in_ok-map_err.was in
    let pushed = rw went at c.push.ensures.items in
    record {
      made = pushed
          ∙ (ap (λ (calls : List PlanCall). calls ++ c.next_call-call.result ∷ []) c.loop-k.invariant.made
          ∙ (ap (λ (call : PlanCall). made ++ call ∷ []) c.next_call-call.ensures.call
          ∙ sym (map-range_with_len_more at 0 k k (omega arith))));
      drawn = subst (λ (n : ℕ). HasDrawn c.args.settings.now.seed n c.next_call-call.new.words) (omega arith) c.next_call-call.ensures.words;
    }
