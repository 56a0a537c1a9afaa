-- The routes of a client, and what is sent on them.
use Rattle.std.specs.Prelude.{◌≡◌, ℕ, ◌-◌, ◌<◌, ◌≤◌, List, [], ◌∷◌, ◌++◌, length, map, slice_index_or, if◌then◌else◌}
use Rattle.std.specs.Arc.{arc_value}
use Rattle.stale_model.specs.declared.store.Entry.{Entry}
use Rattle.stale_model.specs.Calls.{taken_by, freshest, is_stale, repair_of, sent_to}
use Rattle.quorum_client.specs.declared.letters.Note.{Note}
use Rattle.quorum_client.specs.declared.letters.Note.TheVariants.{Ask}
use Rattle.quorum_client.specs.declared.letters.Route.{Route}

-- the pass is of the route's box and of this client, and may send at least as many notes
abbrev pub IsReadyRoute : ℕ → ℕ → Route → Type 0
IsReadyRoute client many r = (r.pass.box ≡ arc_value r.to) × (r.pass.number ≡ client) × (many ≤ r.pass.budget)

-- the route after these notes were sent on it
abbrev pub with_sent : List Note → Route → Route
with_sent notes r = record r { pass = record r.pass { sent = r.pass.sent ++ notes; budget = r.pass.budget - length notes } }

-- the routes after a call: on each, what the call sends to its replica stands last
pub record IsSentOn (e : Entry) (before after : List Route) : Type 0 where
  pub as_many : length after ≡ length before
  pub each : (k : ℕ) (r : Route) → k < length before → slice_index_or after k r ≡ with_sent (map Ask (sent_to k e)) (slice_index_or before k r)

-- the route to replica k after a read repaired it, if its reply is older
abbrev pub repaired : Entry → ℕ → Route → Route
repaired e k r = if is_stale (freshest (taken_by e)).stamp k (taken_by e) then with_sent (Ask (repair_of e) ∷ []) r else r

-- the routes after a read repaired each replica whose reply is older
pub record IsRepairedOn (e : Entry) (before after : List Route) : Type 0 where
  pub as_many : length after ≡ length before
  pub each : (k : ℕ) (r : Route) → k < length before → slice_index_or after k r ≡ repaired e k (slice_index_or before k r)
