-- The boxes, the lanes and the logs of the shards so far.
use Rattle.std.proofs.Common.{◌≡◌, ◌<◌, ℕ, length, map, slice_index_or, vec_len}
use Rattle.std.specs.Arc.{arc_value}
use Rattle.post_box.specs.Boxes.{BoxView}
use Rattle.stale_model.specs.Settings.{calls_of}
use Rattle.key_recorder.specs.Recorders.{PassView, LogView}
use Rattle.key_recorder.specs.Prepared.{budgets_on, first_log}
use Rattle.key_recorder.specs.Making.{IsMade}
use Rattle.key_recorder.proofs.recorder.Recorder.prepare.Given as goal

abbrev pub invariant-loop-shard : goal.invariant-loop-shard
invariant-loop-shard g l = record {
  many : vec_len l.passes ≡ l.settings.clients;
  passes : (c : ℕ) (p : PassView) → c < l.settings.clients
      → IsMade l.settings.shards (calls_of l.plan c) (map (λ b. arc_value b) l.boxes.items) c (slice_index_or l.passes.items c p);
  boxes : length (map (λ b. arc_value b) l.boxes.items) ≡ l.shard;
  room : (k : ℕ) (b : BoxView) → k < l.shard
      → (slice_index_or (map (λ b. arc_value b) l.boxes.items) k b).capacity ≡ budgets_on l.settings.shards k l.plan.clients;
  as_many_logs : length l.logs.items ≡ l.shard;
  logs : (k : ℕ) (b : BoxView) (log : LogView) → k < l.shard
      → slice_index_or l.logs.items k log ≡ first_log l.settings.clients k (slice_index_or (map (λ b. arc_value b) l.boxes.items) k b);
}
