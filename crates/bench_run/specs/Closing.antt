-- How a client and its pass are put together, and how they go back.
use Rattle.std.specs.Prelude.{◌≡◌, ℕ, ◌<◌, true, List, [], ◌∷◌, ◌++◌, length, map, slice_index_or}
use Rattle.std.specs.Arc.{arc_value}
use Rattle.stale_model.specs.declared.store.Settings.{Settings}
use Rattle.quorum_client.specs.declared.letters.Note.TheVariants.{Done}
use Rattle.quorum_client.specs.declared.client.ClientEnd.{ClientEnd}
use Rattle.quorum_client.specs.Routes.{with_sent}
use Rattle.quorum_client.specs.Clients.{ClientView}
use Rattle.key_recorder.specs.Letters.{AreEnded}
use Rattle.key_recorder.specs.Recorders.{PassView, LogView, IsLaneOf}
use Rattle.bench_run.specs.declared.parts.ClientParts.{ClientParts}
use Rattle.bench_run.specs.declared.runner.Runner.{Runner}

-- a client of this number before its first call
abbrev pub first_client : Settings → ℕ → ClientParts → ClientView
first_client s client c = record {
  number = client;
  calls = s.calls;
  read_quorum = s.read_quorum;
  write_quorum = s.write_quorum;
  left = c.calls;
  made = 0;
  routes = c.routes.items;
  inbox = arc_value c.inbox;
  taker = c.taker;
  seat = c.seat;
}

-- that client with this pass
abbrev pub first_runner : Settings → ℕ → ClientParts → PassView → Runner
first_runner s client c p = record { client = first_client s client c; pass = p }

-- what is left of a client that said on each route that it is done
abbrev pub end_of : ClientView → ClientEnd
end_of c = record { seat = c.seat; routes = map (with_sent (Done c.number ∷ [])) c.routes; taker = c.taker }

-- the log once one client more was settled
abbrev pub with_settled : ℕ → LogView → LogView
with_settled client g = record g { settled = g.settled ++ client ∷ [] }

-- the log of this shard, which has taken the ends of all clients
pub record IsDrainedLog (shard : ℕ) (g : LogView) : Type 0 where
  pub shard_is : g.shard ≡ shard
  pub ended : AreEnded g.clients g.taken

-- the pass was closed, it is of a client of these logs, and its sender to each of them is still there
pub record CanSettle (logs : List LogView) (p : PassView) : Type 0 where
  pub closed : p.closed ≡ true
  pub client : (k : ℕ) (g : LogView) → k < length logs → p.client < (slice_index_or logs k g).clients
  pub lanes : (k : ℕ) (g : LogView) → k < length logs → IsLaneOf (slice_index_or logs k g) p

-- a client with no calls left, whose pass can be settled
pub record IsDoneRunner (logs : List LogView) (r : Runner) : Type 0 where
  pub left : r.client.left ≡ []
  pub pass : CanSettle logs r.pass

-- the logs are as before, but for the clients that were settled
pub record AreKept (old new : List LogView) : Type 0 where
  pub as_many : length new ≡ length old
  pub each : (k : ℕ) (g : LogView) → k < length old → slice_index_or new k g ≡ record (slice_index_or old k g) { settled = (slice_index_or new k g).settled }
