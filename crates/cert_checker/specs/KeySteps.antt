-- What the steps of the check of a verdict find.
use Rattle.std.specs.Prelude.{ℕ, List, Option, Some, None}
use Rattle.stale_model.specs.declared.Op.{Op}
use Rattle.stale_model.specs.declared.TwoPart.{TwoPart}
use Rattle.stale_model.specs.declared.Verdict.{Verdict}
use Rattle.stale_model.specs.declared.Verdict.TheVariants as verdict
use Rattle.stale_model.specs.Shown.{ShowsTwo}
use Rattle.cert_checker.specs.declared.faults.State.{State}
use Rattle.cert_checker.specs.declared.faults.State.TheVariants as state
use Rattle.cert_checker.specs.declared.keys.TwoFault.{TwoFault}
use Rattle.cert_checker.specs.KeyFaults.{KindHolds, IsWrongKind, IsTwoFault}
use Rattle.cert_checker.specs.States.{StateHolds}

-- the state of its key that a verdict names
abbrev pub named_state : Verdict → State
named_state (verdict.Duplicate rec) = state.Duplicate rec
named_state (verdict.Unmatched rec) = state.Unmatched rec
named_state (verdict.Infinite rec) = state.Early rec
named_state (verdict.Judged judgement) = state.Clear

-- the record that is named for the kind of the verdict, or that the kind holds
abbrev pub FindsKind : List Op → Verdict → Option ℕ → Type 0
FindsKind ops v None = KindHolds ops v
FindsKind ops v (Some rec) = IsWrongKind ops v rec

-- that is found of the verdict of any operations which are in this state
abbrev pub FindsKindIn : State → Verdict → Option ℕ → Type 0
FindsKindIn s v found = (ops : List Op) → StateHolds ops s → FindsKind ops v found

-- the fault of what shows whether a key is 2-atomic, or that it shows it
abbrev pub IsTwoCheck : List Op → TwoPart → Option TwoFault → Type 0
IsTwoCheck ops part None = ShowsTwo ops part
IsTwoCheck ops part (Some two_fault) = IsTwoFault ops part two_fault
