-- What is wrong with a list of records as an order of all operations, and which record is named.
use Rattle.std.specs.Prelude.{◌≡◌, ℕ, suc, ◌⊎◌, ◌<◌, ◌≤◌, List, Contains, Option, Some, None}
use Rattle.stale_model.specs.declared.Op.{Op}
use Rattle.stale_model.specs.Operations.{records_of}
use Rattle.stale_model.specs.Faults.{IsReadIn, IsWriteOf}
use Rattle.stale_model.specs.Precedence.{Precedes}
use Rattle.stale_model.specs.Orders.{StandsAt, ListsEachOnce, IsAmongLast, IsOrder}
use Rattle.cert_checker.specs.declared.orders.OrderFault.{OrderFault}
use Rattle.cert_checker.specs.declared.orders.OrderFault.TheVariants.{Listing, Precedence, Returns}
use Rattle.cert_checker.specs.declared.Found.{Found}
use Rattle.cert_checker.specs.declared.Found.TheVariants.{Good, Bad}

-- rec stands at the first place at which this is wrong
pub record IsFirstWrong (IsWrong : ℕ → Type 0) (order : List ℕ) (rec : ℕ) : Type 0 where
  pub place : ℕ
  pub there : StandsAt order place rec
  pub wrong : IsWrong place
  pub first : (p : ℕ) → IsWrong p → place ≤ p

-- nothing is wrong at any place
abbrev pub IsNowhere : (ℕ → Type 0) → Type 0
IsNowhere IsWrong = (place : ℕ) → IsWrong place → ⊥

-- rec stands before this place
pub record StandsTo (order : List ℕ) (place rec : ℕ) : Type 0 where
  pub earlier : ℕ
  pub before : earlier < place
  pub there : StandsAt order earlier rec

-- the entry at this place is no operation, or stood before
pub record IsStray (ops : List Op) (order : List ℕ) (place : ℕ) : Type 0 where
  pub rec : ℕ
  pub there : StandsAt order place rec
  pub why : (Contains (records_of ops) rec → ⊥) ⊎ StandsTo order place rec

-- rec is the least record of an operation that the list leaves out, and nothing else is wrong with its entries
pub record IsLeastMissing (ops : List Op) (order : List ℕ) (rec : ℕ) : Type 0 where
  pub no_stray : IsNowhere (IsStray ops order)
  pub member : Contains (records_of ops) rec
  pub missing : Contains order rec → ⊥
  pub least : (x : ℕ) → Contains (records_of ops) x → (Contains order x → ⊥) → rec ≤ x

-- the operation at this place precedes at d one that stands before it
pub record IsBackwards (ops : List Op) (d : ℕ) (order : List ℕ) (place : ℕ) : Type 0 where
  pub earlier : ℕ
  pub rises : earlier < place
  pub a : Op
  pub b : Op
  pub a_in : Contains ops a
  pub b_in : Contains ops b
  pub a_is : StandsAt order place a.rec
  pub b_is : StandsAt order earlier b.rec
  pub precedes : Precedes d a b

-- the operation at this place is a read, and its write isn't one of the last k writes before it
pub record IsUnreturned (ops : List Op) (k : ℕ) (order : List ℕ) (place : ℕ) : Type 0 where
  pub r : Op
  pub read : IsReadIn ops r
  pub there : StandsAt order place r.rec
  pub unreturned : (w : Op) → IsWriteOf ops r.value w → IsAmongLast ops k order w r → ⊥

-- the list doesn't have each operation once, and this record is named
abbrev pub IsWrongListing : List Op → List ℕ → ℕ → Type 0
IsWrongListing ops order rec = IsFirstWrong (IsStray ops order) order rec ⊎ IsLeastMissing ops order rec

-- each operation stands once, one precedes an earlier one, and this record is named
pub record IsWrongPrecedence (ops : List Op) (d : ℕ) (order : List ℕ) (rec : ℕ) : Type 0 where
  pub each_once : ListsEachOnce (records_of ops) order
  pub backwards : IsFirstWrong (IsBackwards ops d order) order rec

-- the list extends precedence, a read doesn't return one of the last k writes, and this record is named
pub record IsWrongReturn (ops : List Op) (d k : ℕ) (order : List ℕ) (rec : ℕ) : Type 0 where
  pub each_once : ListsEachOnce (records_of ops) order
  pub no_backwards : IsNowhere (IsBackwards ops d order)
  pub unreturned : IsFirstWrong (IsUnreturned ops k order) order rec

-- the fault of the list
abbrev pub IsOrderFault : List Op → ℕ → ℕ → List ℕ → OrderFault → Type 0
IsOrderFault ops d k order (Listing rec) = IsWrongListing ops order rec
IsOrderFault ops d k order (Precedence rec) = IsWrongPrecedence ops d order rec
IsOrderFault ops d k order (Returns rec) = IsWrongReturn ops d k order rec

-- the fault of the list, or that it is an order
abbrev pub IsOrderCheck : List Op → ℕ → ℕ → List ℕ → Option OrderFault → Type 0
IsOrderCheck ops d k order None = IsOrder ops d k order
IsOrderCheck ops d k order (Some fault) = IsOrderFault ops d k order fault

-- the rule that is broken, where the listing has this one
abbrev pub order_rule : ℕ → OrderFault → ℕ
order_rule listing (Listing rec) = listing
order_rule listing (Precedence rec) = suc listing
order_rule listing (Returns rec) = suc (suc listing)

-- the record that is named
abbrev pub order_record : OrderFault → ℕ
order_record (Listing rec) = rec
order_record (Precedence rec) = rec
order_record (Returns rec) = rec

-- what is found of a list, where rule 2 is that it lists each operation once
abbrev pub FindsOrder : List Op → ℕ → ℕ → List ℕ → Found → Type 0
FindsOrder ops d k order Good = IsOrder ops d k order
FindsOrder ops d k order (Bad rule rec) = (fault : OrderFault) × IsOrderFault ops d k order fault × (rule ≡ order_rule 2 fault) × (rec ≡ order_record fault)
