-- The plan of a run: what each client is to do, by the words of the seed.
use Rattle.std.specs.Prelude.{◌≡◌, ℕ, ◌+◌, ◌*◌, ◌%◌, ◌<◌, nat_lt, if◌then◌else◌, List, length, Some, map, slice_get}
use Rattle.std.specs.List.{range_with_len}
use Rattle.stale_model.specs.declared.Kind.TheVariants.{Read, Write}
use Rattle.stale_model.specs.declared.store.Settings.{Settings}
use Rattle.stale_model.specs.declared.store.PlanCall.{PlanCall}
use Rattle.stale_model.specs.declared.store.Plan.{Plan}
use Rattle.stale_model.specs.Settings.{calls_of}
use Rattle.seeded_words.specs.Words.{word}

-- the call with this number, by its two words
abbrev pub numbered_call : Settings → ℕ → ℕ → ℕ → PlanCall
numbered_call s number kind_word key_word =
    if nat_lt (kind_word % 100) s.writes
    then record { kind = Write; key = key_word % s.keys; value = number }
    else record { kind = Read; key = key_word % s.keys; value = 0 }

-- the call with so many before it, of its own client and of those before: each takes two words
abbrev pub planned_call : Settings → ℕ → PlanCall
planned_call s before = numbered_call s (before + 1) (word s.seed (2 * before)) (word s.seed (2 * before + 1))

-- the calls of a client
abbrev pub planned_calls : Settings → ℕ → List PlanCall
planned_calls s client = map (λ k. planned_call s (client * s.calls + k)) (range_with_len 0 s.calls)

-- the plan of these settings
abbrev pub plan_for : Settings → Plan
plan_for s = record { clients = map (planned_calls s) (range_with_len 0 s.clients) }

-- call seq of a client, counted from 1: it is on one of the keys, and its number is the value of a write
pub record IsCallOf (s : Settings) (client seq : ℕ) (call : PlanCall) : Type 0 where
  pub key : call.key < s.keys
  pub written : call.kind ≡ Write → call.value ≡ client * s.calls + seq
  pub read : call.kind ≡ Read → call.value ≡ 0

-- the plan has the calls of each client, as many as the settings say
pub record IsWhole (s : Settings) (plan : Plan) : Type 0 where
  pub clients : length plan.clients ≡ s.clients
  pub calls : (client : ℕ) → client < s.clients → length (calls_of plan client) ≡ s.calls
  pub each : (client k : ℕ) (call : PlanCall) → slice_get (calls_of plan client) k ≡ Some call → IsCallOf s client (k + 1) call
