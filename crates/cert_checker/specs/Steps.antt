-- What the steps of the check of an order find.
use Rattle.std.specs.Prelude.{◌≡◌, ℕ, ◌⊎◌, ◌+◌, ◌<◌, max, Bool, true, false, List, length, Contains, Option, Some, None}
use Rattle.stale_model.specs.declared.Op.{Op}
use Rattle.stale_model.specs.declared.Kind.{Kind}
use Rattle.stale_model.specs.declared.Kind.TheVariants.{Read, Write}
use Rattle.stale_model.specs.Operations.{records_of, earliest_start}
use Rattle.stale_model.specs.Faults.{IsReadIn, IsWriteOf}
use Rattle.stale_model.specs.Orders.{StandsAt, IsWithoutRepeats, ListsEachOnce, IsAmongLast}
use Rattle.cert_checker.specs.OrderFaults.{IsFirstWrong, IsNowhere, StandsTo, IsStray, IsWrongListing, IsBackwards, IsUnreturned}
use Rattle.cert_checker.specs.declared.orders.Latest.{Latest}

-- the operations of these records, in this order
pub record AreListed (ops : List Op) (order : List ℕ) (listed : List Op) : Type 0 where
  pub records : records_of listed ≡ order
  pub known : (a : Op) → Contains listed a → Contains ops a

-- a record has its mark exactly where it stands before place n
pub record AreMarks (records order : List ℕ) (n : ℕ) (marks : List Bool) : Type 0 where
  pub marked : (p rec : ℕ) → StandsAt records p rec → StandsTo order n rec → StandsAt marks p true
  pub only : (p rec : ℕ) → StandsAt records p rec → StandsAt marks p true → StandsTo order n rec

-- all entries are operations, each once, with a mark for each
pub record IsKnown (ops : List Op) (order : List ℕ) (listed : List Op) (marks : List Bool) : Type 0 where
  pub known : (x : ℕ) → Contains order x → Contains (records_of ops) x
  pub once : IsWithoutRepeats order
  pub in_order : AreListed ops order listed
  pub one_each : length marks ≡ length ops
  pub marked : AreMarks (records_of ops) order (length order) marks

-- the first entry that is no operation or stood before, or that there is none and these are the operations and marks
abbrev pub IsWalk : List Op → List ℕ → List Op → List Bool → Option ℕ → Type 0
IsWalk ops order listed marks (Some rec) = IsFirstWrong (IsStray ops order) order rec
IsWalk ops order listed marks None = IsKnown ops order listed marks

-- rec is the first record whose operation has no mark
pub record IsFirstUnmarked (ops : List Op) (marks : List Bool) (rec : ℕ) : Type 0 where
  pub place : ℕ
  pub there : StandsAt (records_of ops) place rec
  pub unmarked : StandsAt marks place false
  pub first : (p : ℕ) → p < place → StandsAt marks p true

-- that record, or that each has its mark
abbrev pub FindsUnmarked : List Op → List Bool → Option ℕ → Type 0
FindsUnmarked ops marks None = (p : ℕ) → p < length ops → StandsAt marks p true
FindsUnmarked ops marks (Some rec) = IsFirstUnmarked ops marks rec

-- the record that is named, or that the order has each operation once and these are they
abbrev pub IsListed : List Op → List ℕ → List Op → Option ℕ → Type 0
IsListed ops order listed (Some rec) = IsWrongListing ops order rec
IsListed ops order listed None = ListsEachOnce (records_of ops) order × AreListed ops order listed

-- what finishes then precedes at d one of those with these greatest starts
abbrev pub IsAfter : Latest → ℕ → ℕ → Type 0
IsAfter latest d finish = (finish + d < latest.read) ⊎ (finish < latest.write)

-- one more start of this kind
abbrev pub with_kind : Latest → Kind → ℕ → Latest
with_kind latest Read start = record latest { read = max latest.read start }
with_kind latest Write start = record latest { write = max latest.write start }

-- one more operation
abbrev pub with_op : Latest → Op → Latest
with_op latest op = with_kind latest op.kind (earliest_start op)

-- the first operation that precedes an earlier one at d, or that there is none
abbrev pub FindsBackwards : List Op → ℕ → List ℕ → Option ℕ → Type 0
FindsBackwards ops d order None = IsNowhere (IsBackwards ops d order)
FindsBackwards ops d order (Some rec) = IsFirstWrong (IsBackwards ops d order) order rec

-- the read returns one of the last k writes before it
abbrev pub Returns : List Op → ℕ → List ℕ → Op → Type 0
Returns ops k order r = (w : Op) × IsWriteOf ops r.value w × IsAmongLast ops k order w r

-- the first read that doesn't return one of the last k writes, or that all do
abbrev pub FindsUnreturned : List Op → ℕ → List ℕ → Option ℕ → Type 0
FindsUnreturned ops k order None = (r : Op) → IsReadIn ops r → Contains order r.rec → Returns ops k order r
FindsUnreturned ops k order (Some rec) = IsFirstWrong (IsUnreturned ops k order) order rec
