-- What a worker claims with the tickets that it draws.
use Rattle.std.specs.Prelude.{◌≡◌, ℕ, ◌+◌, ◌-◌, ◌<◌, ◌≤◌, List, [], ◌∷◌, ◌++◌, length, map, All, Some, slice_get}
use Rattle.stale_model.specs.declared.Op.{Op}
use Rattle.stale_model.specs.declared.KeyOps.{KeyOps}
use Rattle.stale_model.specs.declared.Verdict.{Verdict}
use Rattle.stale_model.specs.Operations.{operations}
use Rattle.ticket_clock.specs.Seats.{SeatView}
use Rattle.audit_workers.specs.declared.claims.Claim.{Claim}

-- the claim is of a key, counted from 1, and its verdict is as this says of the key's operations
pub record IsClaim (Says : List Op → Verdict → Type 0) (keys : List KeyOps) (claim : Claim) : Type 0 where
  pub number : 1 ≤ claim.key
  pub key : KeyOps
  pub at : slice_get keys (claim.key - 1) ≡ Some key
  pub verdict : Says (operations key) claim.verdict

-- each of these is such a claim
abbrev pub AreClaims : (List Op → Verdict → Type 0) → List KeyOps → List Claim → Type 0
AreClaims Says keys claims = All (IsClaim Says keys) claims

-- the keys of these claims, in their order
abbrev pub keys_of : List Claim → List ℕ
keys_of claims = map (λ claim. claim.key) claims

-- the seat drew the keys of these claims, in their order, and then one ticket above the number of keys
pub record DrewClaims (keys : ℕ) (claims : List Claim) (before after : SeatView) : Type 0 where
  pub last : ℕ
  pub above : keys < last
  pub clock : after.clock ≡ before.clock
  pub drawn : after.drawn ≡ before.drawn ++ keys_of claims ++ last ∷ []
  pub left : after.left + length claims + 1 ≡ before.left
  pub seen : after.seen ≡ last + 1

-- the seat drew these tickets more, and spent as many
pub record DrewMore (before after : SeatView) : Type 0 where
  pub more : List ℕ
  pub clock : after.clock ≡ before.clock
  pub drawn : after.drawn ≡ before.drawn ++ more
  pub left : after.left + length more ≡ before.left
  pub seen : before.seen ≤ after.seen
