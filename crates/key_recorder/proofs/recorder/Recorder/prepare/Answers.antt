-- One shard more, and what all shards make.
use Rattle.std.proofs.Common.{◌≡◌, ◌<◌, ℕ, List, [], ◌∷◌, ◌++◌, length, map, slice_index_or, ap, sym, ◌∙◌, subst, arith, length-append}
use Rattle.std.specs.Arc.{arc_value}
use Rattle.post_box.specs.Boxes.{BoxView}
use Rattle.stale_model.specs.declared.store.PlanCall.{PlanCall}
use Rattle.stale_model.specs.Settings.{calls_of}
use Rattle.key_recorder.specs.Recorders.{PassView, LogView}
use Rattle.key_recorder.specs.Prepared.{budget_on, budgets_on, first_log}
use Rattle.key_recorder.specs.Making.{AreFew, IsMade, first_lane, with_lane}
use Rattle.key_recorder.proofs.Making.{few_plans, passes_more, logs_more, room_more}
use Rattle.key_recorder.proofs.recorder.Recorder.prepare.Goals as goal

pub open_shard-requires-clause-few : goal.open_shard-requires-clause-few
open_shard-requires-clause-few g c =
    subst AreFew (sym c.as_slice.ensures)
    (few_plans c.args.settings.now.clients c.args.settings.now.calls c.args.plan.now.clients c.requires.clients c.requires.settings.clients.0
    c.requires.settings.clients.1 c.requires.settings.calls.1 c.requires.calls)

pub loop-shard-preserved : goal.loop-shard-preserved
loop-shard-preserved g c =
    let i = c.loop-shard.invariant in
    let plans = c.args.plan.now.clients in
    let shards = c.args.settings.now.shards in
    let shard = c.loop-shard.shard in
    let log = c.in_ok-log.log in
    let made = c.in_ok-log.ensures in
    let old : List BoxView = map (λ b. arc_value b) c.loop-shard.boxes.items in
    let boxes = c.in_ok-keep_log.ensures.boxes in
    let logs = c.in_ok-keep_log.ensures.logs in
    let given = subst (λ (ps : List (List PlanCall)). (k : ℕ) (p : PassView) → k < length ps
    → slice_index_or c.open_shard.new.passes.items k p ≡ with_lane (first_lane log.box (budget_on shards shard (slice_index_or ps k []))) (slice_index_or c.loop-shard.passes.items k p))
    c.as_slice.ensures made.passes
    in
    let room : log.box.capacity ≡ budgets_on shards shard plans = made.room ∙ ap (budgets_on shards shard) c.as_slice.ensures in
    let is : log ≡ first_log c.args.settings.now.clients shard log.box =
    made.log ∙ ap (λ (n : ℕ). first_log n shard log.box) (ap (λ (ps : List (List PlanCall)). length ps) c.as_slice.ensures ∙ c.requires.clients)
    in
    record {
      many = made.many ∙ i.many;
      passes = λ k p less. subst (λ (bs : List BoxView). IsMade shards (calls_of c.args.plan.now k) bs k (slice_index_or c.open_shard.new.passes.items k p)) (sym boxes)
          (passes_more shards c.args.settings.now.clients shard plans old log.box c.loop-shard.passes.items c.open_shard.new.passes.items i.boxes c.requires.clients i.passes given k p less);
      boxes = ap (λ (bs : List BoxView). length bs) boxes ∙ omega (arith, length-append old (log.box ∷ []), i.boxes);
      room = λ k b less. subst (λ (bs : List BoxView). (slice_index_or bs k b).capacity ≡ budgets_on shards k plans) (sym boxes) (room_more shards shard plans old log.box i.boxes i.room room k b less);
      as_many_logs = ap (λ (gs : List LogView). length gs) logs ∙ omega (arith, length-append c.loop-shard.logs.items (log ∷ []), i.as_many_logs);
      logs = λ k b d less.
          subst (λ (gs : List LogView). slice_index_or gs k d ≡ first_log c.args.settings.now.clients k (slice_index_or (map (λ b. arc_value b) c.keep_log.new.boxes.items) k b)) (sym logs)
          (subst (λ (bs : List BoxView). slice_index_or (c.loop-shard.logs.items ++ log ∷ []) k d ≡ first_log c.args.settings.now.clients k (slice_index_or bs k b)) (sym boxes)
          (logs_more c.args.settings.now.clients shard old log.box c.loop-shard.logs.items log i.boxes i.as_many_logs i.logs is k b d less));
    }
