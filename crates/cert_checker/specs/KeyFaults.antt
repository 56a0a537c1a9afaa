-- What is wrong with the verdict of a key, and which record is named: the first rule that is broken.
use Rattle.std.specs.Prelude.{◌≡◌, ◌⊎◌, ℕ, ◌+◌, ◌<◌, List, Option, Some, None}
use Rattle.stale_model.specs.declared.Op.{Op}
use Rattle.stale_model.specs.declared.Four.{Four}
use Rattle.stale_model.specs.declared.Judgement.{Judgement}
use Rattle.stale_model.specs.declared.KeyOps.{KeyOps}
use Rattle.stale_model.specs.declared.TwoPart.{TwoPart}
use Rattle.stale_model.specs.declared.TwoPart.TheVariants.{Yes, No}
use Rattle.stale_model.specs.declared.Verdict.{Verdict}
use Rattle.stale_model.specs.declared.Verdict.TheVariants.{Duplicate, Unmatched, Infinite, Judged}
use Rattle.stale_model.specs.Operations.{operations}
use Rattle.stale_model.specs.Faults.{IsDuplicateKey, IsUnmatchedKey, IsEarlyKey, IsClearKey}
use Rattle.stale_model.specs.Orders.{StandsAt, IsOrder}
use Rattle.stale_model.specs.Truth.{EachKeyHas}
use Rattle.stale_model.specs.Shown.{FourShow, ShowsDelta, IsShown}
use Rattle.cert_checker.specs.declared.Found.{Found}
use Rattle.cert_checker.specs.declared.Found.TheVariants as found
use Rattle.cert_checker.specs.declared.Checked.{Checked}
use Rattle.cert_checker.specs.declared.Checked.TheVariants as checked
use Rattle.cert_checker.specs.declared.orders.OrderFault.{OrderFault}
use Rattle.cert_checker.specs.declared.keys.TwoFault.{TwoFault}
use Rattle.cert_checker.specs.declared.keys.TwoFault.TheVariants as two
use Rattle.cert_checker.specs.declared.keys.KeyFault.{KeyFault}
use Rattle.cert_checker.specs.declared.keys.KeyFault.TheVariants as fault
use Rattle.cert_checker.specs.OrderFaults.{IsOrderFault, order_rule, order_record}
use Rattle.cert_checker.specs.RefutationFaults.{IsRefutationFault}

-- a verdict names the fault of the key and its record; a judgement is of a key without a fault
abbrev pub KindHolds : List Op → Verdict → Type 0
KindHolds ops (Duplicate rec) = IsDuplicateKey ops rec
KindHolds ops (Unmatched rec) = IsUnmatchedKey ops rec
KindHolds ops (Infinite rec) = IsEarlyKey ops rec
KindHolds ops (Judged judgement) = IsClearKey ops

-- the key has a fault, of this record
abbrev pub IsFaultyKey : List Op → ℕ → Type 0
IsFaultyKey ops rec = IsDuplicateKey ops rec ⊎ (IsUnmatchedKey ops rec ⊎ IsEarlyKey ops rec)

-- the record that a verdict names, if it names one
abbrev pub named_record : Verdict → Option ℕ
named_record (Duplicate rec) = Some rec
named_record (Unmatched rec) = Some rec
named_record (Infinite rec) = Some rec
named_record (Judged judgement) = None

-- rule 1: the kind or its record is another; the record of the key's fault is named, or that of the verdict where the key has none
pub record IsWrongKind (ops : List Op) (verdict : Verdict) (rec : ℕ) : Type 0 where
  pub wrong : KindHolds ops verdict → ⊥
  pub named : IsFaultyKey ops rec ⊎ (IsClearKey ops × (named_record verdict ≡ Some rec))

-- rules 2 to 4: the order at delta
pub record IsWrongFirst (ops : List Op) (judgement : Judgement) (order_fault : OrderFault) : Type 0 where
  pub clear : IsClearKey ops
  pub wrong : IsOrderFault ops judgement.delta 1 judgement.order order_fault

-- the record p of the four; 0 where they aren't there
abbrev pub record_of_four : Option Four → ℕ
record_of_four None = 0
record_of_four (Some four) = four.p

-- rule 5: the four records are there though delta is 0, aren't there though it isn't, or don't hold at delta - 1
pub record IsWrongFour (ops : List Op) (judgement : Judgement) (rec : ℕ) : Type 0 where
  pub clear : IsClearKey ops
  pub order : IsOrder ops judgement.delta 1 judgement.order
  pub wrong : FourShow ops judgement.delta judgement.four → ⊥
  pub named : rec ≡ record_of_four judgement.four

-- rules 6 to 9: the order with the last two writes, or the refutation
abbrev pub IsTwoFault : List Op → TwoPart → TwoFault → Type 0
IsTwoFault ops (Yes order) (two.Order order_fault) = IsOrderFault ops 0 2 order order_fault
IsTwoFault ops (No refutation) (two.Refutation rec) = IsRefutationFault ops 0 refutation rec
IsTwoFault ops _ _ = ⊥

-- what shows delta is right, and what shows 2-atomicity isn't
pub record IsWrongTwo (ops : List Op) (judgement : Judgement) (two_fault : TwoFault) : Type 0 where
  pub clear : IsClearKey ops
  pub delta : ShowsDelta ops judgement.delta judgement.order judgement.four
  pub wrong : IsTwoFault ops judgement.two two_fault

-- the fault of a verdict
abbrev pub IsKeyFault : List Op → Verdict → KeyFault → Type 0
IsKeyFault ops verdict (fault.Kind rec) = IsWrongKind ops verdict rec
IsKeyFault ops (Judged judgement) (fault.First order_fault) = IsWrongFirst ops judgement order_fault
IsKeyFault ops (Judged judgement) (fault.Four rec) = IsWrongFour ops judgement rec
IsKeyFault ops (Judged judgement) (fault.Two two_fault) = IsWrongTwo ops judgement two_fault
IsKeyFault ops _ _ = ⊥

-- the rule that is broken
abbrev pub key_rule : KeyFault → ℕ
key_rule (fault.Kind rec) = 1
key_rule (fault.First order_fault) = order_rule 2 order_fault
key_rule (fault.Four rec) = 5
key_rule (fault.Two (two.Order order_fault)) = order_rule 6 order_fault
key_rule (fault.Two (two.Refutation rec)) = 9

-- the record that is named
abbrev pub key_record : KeyFault → ℕ
key_record (fault.Kind rec) = rec
key_record (fault.First order_fault) = order_record order_fault
key_record (fault.Four rec) = rec
key_record (fault.Two (two.Order order_fault)) = order_record order_fault
key_record (fault.Two (two.Refutation rec)) = rec

-- the fault of a verdict, or that it is shown
abbrev pub IsKeyCheck : List Op → Verdict → Option KeyFault → Type 0
IsKeyCheck ops verdict None = IsShown ops verdict
IsKeyCheck ops verdict (Some key_fault) = IsKeyFault ops verdict key_fault

-- what is found of a verdict
abbrev pub FindsKey : List Op → Verdict → Found → Type 0
FindsKey ops verdict found.Good = IsShown ops verdict
FindsKey ops verdict (found.Bad rule rec) =
    (key_fault : KeyFault) × IsKeyFault ops verdict key_fault × (rule ≡ key_rule key_fault) × (rec ≡ key_record key_fault)

-- the first key, counted from 1, whose verdict isn't shown, with the rule that it breaks and the record that is named
pub record IsFirstBad (keys : List KeyOps) (verdicts : List Verdict) (number rule rec : ℕ) : Type 0 where
  pub place : ℕ
  pub number_is : number ≡ place + 1
  pub key : KeyOps
  pub verdict : Verdict
  pub key_is : StandsAt keys place key
  pub verdict_is : StandsAt verdicts place verdict
  pub bad : FindsKey (operations key) verdict (found.Bad rule rec)
  pub earlier : (i : ℕ) (k : KeyOps) (v : Verdict) → i < place → StandsAt keys i k → StandsAt verdicts i v → IsShown (operations k) v

-- what is found of the verdicts of all keys
abbrev pub FindsAll : List KeyOps → List Verdict → Checked → Type 0
FindsAll keys verdicts checked.Good = EachKeyHas IsShown keys verdicts
FindsAll keys verdicts (checked.Bad number rule rec) = IsFirstBad keys verdicts number rule rec
