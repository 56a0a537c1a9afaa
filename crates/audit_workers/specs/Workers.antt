-- What is known between the steps of the workers, for the code alone.
use Rattle.std.specs.Prelude.{◌≡◌, ℕ, ◌+◌, ◌<◌, List, [], length, Some, slice_get}
use Rattle.stale_model.specs.declared.KeyOps.{KeyOps}
use Rattle.stale_model.specs.declared.Verdict.{Verdict}
use Rattle.stale_model.specs.Operations.{operations}
use Rattle.stale_model.specs.PrintedVerdicts.{IsPrintedVerdict}
use Rattle.ticket_clock.specs.Seats.{ClockView, SeatView, times}
use Rattle.audit_workers.specs.declared.claims.Claim.{Claim}
use Rattle.audit_workers.specs.Claims.{AreClaims, DrewClaims}
use Rattle.audit_workers.specs.Calls.{Call, claimed_by, HoldsCalls}

-- a seat that has drawn nothing, and may draw one ticket more than there are keys
pub record IsReady (clock : ClockView) (keys : ℕ) (seat : SeatView) : Type 0 where
  pub own : seat.clock ≡ clock.id
  pub left : seat.left ≡ keys + 1
  pub fresh : seat.drawn ≡ []

-- a seat that was ready, and drew what was claimed
pub record IsDone (clock : ClockView) (keys : List KeyOps) (seat : SeatView) (claims : List Claim) : Type 0 where
  pub before : SeatView
  pub ready : IsReady clock (length keys) before
  pub are : AreClaims IsPrintedVerdict keys claims
  pub drawn : DrewClaims (length keys) claims before seat

-- there is a place for each key, and at the place of each key that was claimed its verdict
pub record IsFilled (keys : List KeyOps) (claimed : List ℕ) (verdicts : List Verdict) : Type 0 where
  pub many : length verdicts ≡ length keys
  pub each : (place : ℕ) (key : KeyOps) (verdict : Verdict) → 0 < times (place + 1) claimed
      → slice_get keys place ≡ Some key → slice_get verdicts place ≡ Some verdict → IsPrintedVerdict (operations key) verdict

-- the tickets are those of so many calls, and the verdicts of what they claimed are at their places
pub record IsGathered (keys : List KeyOps) (many : ℕ) (drawn : List ℕ) (verdicts : List Verdict) : Type 0 where
  pub calls : List Call
  pub as_many : length calls ≡ many
  pub holds : HoldsCalls (length keys) calls drawn
  pub filled : IsFilled keys (claimed_by calls) verdicts
