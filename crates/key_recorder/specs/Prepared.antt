-- What is prepared for a run: boxes, passes and logs, before the first call.
use Rattle.std.specs.Prelude.{◌≡◌, ℕ, ◌+◌, ◌<◌, ◌==◌, true, false, List, [], length, slice_index_or, count_by}
use Rattle.std.specs.List.{sum_by}
use Rattle.post_box.specs.Boxes.{BoxView}
use Rattle.stale_model.specs.declared.store.Settings.{Settings}
use Rattle.stale_model.specs.declared.store.PlanCall.{PlanCall}
use Rattle.stale_model.specs.declared.store.Plan.{Plan}
use Rattle.stale_model.specs.Settings.{calls_of}
use Rattle.key_recorder.specs.Recorders.{RecorderView, LaneView, PassView, LogView, IsOf, shard_of}

-- how many of the planned calls are on keys of a shard
abbrev pub calls_on : ℕ → ℕ → List PlanCall → ℕ
calls_on shards shard calls = count_by (λ c. shard_of shards c.key == shard) calls

-- how many letters a client sends to a shard: its entries there, and its end
abbrev pub budget_on : ℕ → ℕ → List PlanCall → ℕ
budget_on shards shard calls = calls_on shards shard calls + 1

-- how many letters all clients send to a shard
abbrev pub budgets_on : ℕ → ℕ → List (List PlanCall) → ℕ
budgets_on shards shard plans = sum_by (budget_on shards shard) plans

-- a lane on which nothing was sent
pub record IsFirstLane (budget : ℕ) (l : LaneView) : Type 0 where
  pub sent : l.sent ≡ []
  pub left : l.left ≡ budget
  pub here : l.here ≡ true

-- the pass of a client before its first call
pub record IsFirstPass (settings : Settings) (plan : Plan) (client : ℕ) (p : PassView) : Type 0 where
  pub client_is : p.client ≡ client
  pub not_closed : p.closed ≡ false
  pub as_many : length p.lanes ≡ settings.shards
  pub each : (k : ℕ) (l : LaneView) → k < settings.shards → IsFirstLane (budget_on settings.shards k (calls_of plan client)) (slice_index_or p.lanes k l)

-- the log of a shard that took nothing
abbrev pub first_log : ℕ → ℕ → BoxView → LogView
first_log clients shard box = record { box = box; clients = clients; shard = shard; taken = []; empties = 0; settled = [] }

-- a box for each shard, with room for all letters that its clients send there; a pass for each client, and a log for each shard
pub record IsPrepared (settings : Settings) (plan : Plan) (recorder : RecorderView) (ps : List PassView) (gs : List LogView) : Type 0 where
  pub boxes : length recorder.boxes ≡ settings.shards
  pub room : (k : ℕ) (b : BoxView) → k < settings.shards → (slice_index_or recorder.boxes k b).capacity ≡ budgets_on settings.shards k plan.clients
  pub as_many_passes : length ps ≡ settings.clients
  pub own : (c : ℕ) (p : PassView) → c < settings.clients → IsOf recorder (slice_index_or ps c p)
  pub passes : (c : ℕ) (p : PassView) → c < settings.clients → IsFirstPass settings plan c (slice_index_or ps c p)
  pub as_many_logs : length gs ≡ settings.shards
  pub logs : (k : ℕ) (b : BoxView) (g : LogView) → k < settings.shards → slice_index_or gs k g ≡ first_log settings.clients k (slice_index_or recorder.boxes k b)
