-- What is wrong with a refutation, and which record is named.
use Rattle.std.specs.Prelude.{◌≡◌, ◌≢◌, ◌⊎◌, ℕ, List, length, Option, Some, None}
use Rattle.stale_model.specs.declared.Op.{Op}
use Rattle.stale_model.specs.declared.Try.{Try}
use Rattle.stale_model.specs.declared.Refutation.{Refutation}
use Rattle.stale_model.specs.Operations.{IsWrite}
use Rattle.stale_model.specs.Orders.{StandsAt}
use Rattle.stale_model.specs.Refutations.{IsOfRecord, TryHolds, RefutationHolds}
use Rattle.cert_checker.specs.declared.Found.{Found}
use Rattle.cert_checker.specs.declared.Found.TheVariants.{Good, Bad}
use Rattle.cert_checker.specs.OrderFaults.{IsFirstWrong, IsNowhere, StandsTo}

-- the entry at this place is the record of no write, or stood before
pub record IsStranger (ops : List Op) (stuck : List ℕ) (place : ℕ) : Type 0 where
  pub rec : ℕ
  pub there : StandsAt stuck place rec
  pub why : ((w : Op) → IsOfRecord ops rec w → IsWrite w → ⊥) ⊎ StandsTo stuck place rec

-- the try of the member at this place doesn't hold
pub record IsFailedTry (ops : List Op) (d : ℕ) (refutation : Refutation) (place : ℕ) : Type 0 where
  pub member : ℕ
  pub attempt : Try
  pub member_is : StandsAt refutation.stuck place member
  pub attempt_is : StandsAt refutation.tries place attempt
  pub fails : TryHolds ops d refutation.stuck member attempt → ⊥

-- all members are writes, each once; there are none of them, or not as many tries; 0 is named
pub record IsWrongCount (ops : List Op) (refutation : Refutation) (rec : ℕ) : Type 0 where
  pub no_stranger : IsNowhere (IsStranger ops refutation.stuck)
  pub count : (length refutation.stuck ≡ 0) ⊎ (length refutation.tries ≢ length refutation.stuck)
  pub zeroth : rec ≡ 0

-- members and their number are right, a try fails, and its member is named
pub record IsWrongTry (ops : List Op) (d : ℕ) (refutation : Refutation) (rec : ℕ) : Type 0 where
  pub no_stranger : IsNowhere (IsStranger ops refutation.stuck)
  pub as_many : length refutation.tries ≡ length refutation.stuck
  pub failed : IsFirstWrong (IsFailedTry ops d refutation) refutation.stuck rec

-- the refutation doesn't hold at d, and this record is named
abbrev pub IsRefutationFault : List Op → ℕ → Refutation → ℕ → Type 0
IsRefutationFault ops d refutation rec =
    IsFirstWrong (IsStranger ops refutation.stuck) refutation.stuck rec
    ⊎ (IsWrongCount ops refutation rec ⊎ IsWrongTry ops d refutation rec)

-- that record, or that the refutation holds
abbrev pub IsRefutationCheck : List Op → ℕ → Refutation → Option ℕ → Type 0
IsRefutationCheck ops d refutation None = RefutationHolds ops d refutation
IsRefutationCheck ops d refutation (Some rec) = IsRefutationFault ops d refutation rec

-- what is found of a refutation at d
abbrev pub FindsRefutation : List Op → ℕ → Refutation → Found → Type 0
FindsRefutation ops d refutation Good = RefutationHolds ops d refutation
FindsRefutation ops d refutation (Bad rule rec) = (rule ≡ 9) × IsRefutationFault ops d refutation rec
