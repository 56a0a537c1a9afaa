-- What the logs of a run have of the calls of its clients.
use Rattle.std.specs.Prelude.{◌≡◌, ℕ, ◌<◌, ◌==◌, List, All, filter}
use Rattle.stale_model.specs.declared.store.Settings.{Settings}
use Rattle.stale_model.specs.declared.store.Entry.{Entry}
use Rattle.key_recorder.specs.Recorders.{shard_of}

-- of these entries, those on keys of a shard
abbrev pub entries_on : ℕ → ℕ → List Entry → List Entry
entries_on shards shard es = filter (λ e. shard_of shards e.key == shard) es

-- the entries of a log of this shard: of each client those of its calls that are on the shard's keys, and of clients alone
pub record AreLogged (s : Settings) (calls : ℕ → List Entry) (shard : ℕ) (logged : List Entry) : Type 0 where
  pub clients : All (λ e. e.client < s.clients) logged
  pub each : (client : ℕ) → client < s.clients → filter (λ e. e.client == client) logged ≡ entries_on s.shards shard (calls client)
