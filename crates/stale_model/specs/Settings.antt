-- What a run of the store is asked to do.
use Rattle.std.specs.Prelude.{ℕ, ◌*◌, ◌≤◌, List, [], slice_index_or}
use Rattle.stale_model.specs.declared.Kind.{Kind}
use Rattle.stale_model.specs.declared.Kind.TheVariants.{Read, Write}
use Rattle.stale_model.specs.declared.store.Settings.{Settings}
use Rattle.stale_model.specs.declared.store.PlanCall.{PlanCall}
use Rattle.stale_model.specs.declared.store.Plan.{Plan}

-- the settings are within their limits
pub record AreSettings (s : Settings) : Type 0 where
  pub clients : (1 ≤ s.clients) × (s.clients ≤ 32)
  pub replicas : (1 ≤ s.replicas) × (s.replicas ≤ 7)
  pub calls : (1 ≤ s.calls) × (s.clients * s.calls ≤ 100000)
  pub keys : (1 ≤ s.keys) × (s.keys ≤ 1000)
  pub read_quorum : (1 ≤ s.read_quorum) × (s.read_quorum ≤ s.replicas)
  pub write_quorum : (1 ≤ s.write_quorum) × (s.write_quorum ≤ s.replicas)
  pub writes : s.writes ≤ 100
  pub shards : (1 ≤ s.shards) × (s.shards ≤ 16)

-- how many replies a call of this kind takes
abbrev pub quorum : Settings → Kind → ℕ
quorum s Read = s.read_quorum
quorum s Write = s.write_quorum

-- the planned calls of a client
abbrev pub calls_of : Plan → ℕ → List PlanCall
calls_of plan client = slice_index_or plan.clients client []
