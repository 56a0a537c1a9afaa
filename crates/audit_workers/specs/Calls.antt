-- What calls of `judge_claims` by several threads claim together.
use Rattle.std.specs.Prelude.{◌≡◌, ℕ, ◌<◌, ◌≤◌, List, [], ◌∷◌, ◌++◌, length, All, flat_map}
use Rattle.ticket_clock.specs.Seats.{times, IsOneToLength}
use Rattle.audit_workers.specs.declared.claims.Claim.{Claim}
use Rattle.audit_workers.specs.Claims.{keys_of}

-- a call that was not refused: what it claimed, and the last ticket that it drew
pub record Call : Type 0 where
  pub claims : List Claim
  pub last : ℕ

-- the keys that these calls claimed, one call after the other
abbrev pub claimed_by : List Call → List ℕ
claimed_by calls = flat_map (λ call. keys_of call.claims) calls

-- the tickets that they drew: of each call the keys of its claims, and its last one
abbrev pub drawn_by : List Call → List ℕ
drawn_by calls = flat_map (λ call. keys_of call.claims ++ call.last ∷ []) calls

-- the list holds what these calls drew and nothing else, and the last ticket of each is above the number of keys
pub record HoldsCalls (keys : ℕ) (calls : List Call) (drawn : List ℕ) : Type 0 where
  pub above : All (λ call. keys < call.last) calls
  pub tickets : (x : ℕ) → times x drawn ≡ times x (drawn_by calls)

-- where calls, at least one, drew the numbers from 1 on, each once, their claims together hold each key once
abbrev pub KeysAreClaimedOnce : Type 0
KeysAreClaimedOnce = (keys : ℕ) (calls : List Call) (drawn : List ℕ)
    → 0 < length calls → HoldsCalls keys calls drawn → IsOneToLength drawn
    → (key : ℕ) → 1 ≤ key → key ≤ keys → times key (claimed_by calls) ≡ 1
