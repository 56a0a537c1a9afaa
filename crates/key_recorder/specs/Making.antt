-- What is made while a run is prepared.
use Rattle.std.specs.Prelude.{◌≡◌, ℕ, ◌<◌, ◌≤◌, false, true, List, [], ◌∷◌, ◌++◌, length, map, slice_index_or}
use Rattle.std.specs.List.{sum_by}
use Rattle.post_box.specs.Boxes.{BoxView}
use Rattle.stale_model.specs.declared.store.PlanCall.{PlanCall}
use Rattle.key_recorder.specs.Recorders.{LaneView, PassView}
use Rattle.key_recorder.specs.Prepared.{budget_on, IsFirstLane}

-- there are few clients, with few calls
pub record AreFew (plans : List (List PlanCall)) : Type 0 where
  pub few : sum_by (λ calls. length calls) plans ≤ 100000
  pub some : 1 ≤ length plans
  pub clients : length plans ≤ 32

-- the pass of a client with lanes to so many shards, through these boxes
pub record IsMade (shards : ℕ) (calls : List PlanCall) (boxes : List BoxView) (client : ℕ) (p : PassView) : Type 0 where
  pub client_is : p.client ≡ client
  pub not_closed : p.closed ≡ false
  pub own : map (λ l. l.box) p.lanes ≡ boxes
  pub each : (k : ℕ) (l : LaneView) → k < length boxes → IsFirstLane (budget_on shards k calls) (slice_index_or p.lanes k l)

-- a lane on which nothing was sent
abbrev pub first_lane : BoxView → ℕ → LaneView
first_lane box left = record { box = box; sent = []; left = left; here = true }

-- the pass with one lane more
abbrev pub with_lane : LaneView → PassView → PassView
with_lane l p = record p { lanes = p.lanes ++ l ∷ [] }
