-- What the steps of the check of a refutation find.
use Rattle.std.specs.Prelude.{◌≡◌, ◌≢◌, ◌↔◌, IsTrue, ℕ, ◌⊎◌, ◌+◌, ◌-◌, ◌^◌, ◌<◌, ◌≤◌, max, min, true, Bool, List, length, Contains, Option, Some, None}
use Rattle.stale_model.specs.declared.Op.{Op}
use Rattle.stale_model.specs.declared.Kind.{Kind}
use Rattle.stale_model.specs.declared.Kind.TheVariants.{Read, Write}
use Rattle.stale_model.specs.declared.KeyOps.{KeyOps}
use Rattle.stale_model.specs.declared.Refutation.{Refutation}
use Rattle.stale_model.specs.declared.End.{End}
use Rattle.stale_model.specs.declared.Try.{Try}
use Rattle.stale_model.specs.Operations.{operations, IsRead, IsWrite, earliest_start, latest_finish}
use Rattle.stale_model.specs.Faults.{IsWriteOf, IsMatchedKey}
use Rattle.stale_model.specs.Valid.{IsValidKey}
use Rattle.stale_model.specs.Orders.{StandsAt, IsWithoutRepeats}
use Rattle.stale_model.specs.Precedence.{Precedes}
use Rattle.stale_model.specs.Refutations.{IsOfRecord, Forces, PrecedesUnplaced, HardHolds, SoftHolds, EndHolds, TryHolds}
use Rattle.cert_checker.specs.OrderFaults.{IsFirstWrong, StandsTo}
use Rattle.cert_checker.specs.RefutationFaults.{IsStranger, IsFailedTry}
use Rattle.cert_checker.specs.declared.refutations.Span.{Span}
use Rattle.cert_checker.specs.declared.refutations.Case.{Case}

-- one more operation of the cluster, of this kind and with these times
abbrev pub with_times : Span → Kind → ℕ → ℕ → Span
with_times span Read start finish = record { finish = min span.finish finish; start = max span.start start }
with_times span Write start finish = record { finish = min span.finish finish; start = span.start }

-- one more operation of the cluster
abbrev pub with_op : Span → Op → Span
with_op span op = with_times span op.kind (earliest_start op) (latest_finish op)

-- an operation of this value, before place n
pub record IsOfValue (ops : List Op) (n value : ℕ) (a : Op) : Type 0 where
  pub place : ℕ
  pub before : place < n
  pub there : StandsAt ops place a
  pub value_is : a.value ≡ value

-- the least latest finish of the operations of this value before place n, or the greatest tick
pub record IsFinish (ops : List Op) (n value finish : ℕ) : Type 0 where
  pub least : (a : Op) → IsOfValue ops n value a → finish ≤ latest_finish a
  pub reached : (finish ≡ 2 ^ 64 - 1) ⊎ ((a : Op) × IsOfValue ops n value a × (latest_finish a ≡ finish))

-- the greatest earliest start of the reads of this value before place n, or 0
pub record IsStart (ops : List Op) (n value start : ℕ) : Type 0 where
  pub greatest : (r : Op) → IsOfValue ops n value r → IsRead r → earliest_start r ≤ start
  pub reached : (start ≡ 0) ⊎ ((r : Op) × IsOfValue ops n value r × IsRead r × (earliest_start r ≡ start))

-- when the operations of this value before place n finish and its reads start
pub record IsSpan (ops : List Op) (n value : ℕ) (span : Span) : Type 0 where
  pub finish : IsFinish ops n value span.finish
  pub start : IsStart ops n value span.start

-- each value has its span
abbrev pub AreSpans : List Op → ℕ → List Span → Type 0
AreSpans ops n spans = (value : ℕ) (span : Span) → StandsAt spans value span → IsSpan ops n value span

-- the spans of all operations of a key
abbrev pub AreSpansOf : KeyOps → List Span → Type 0
AreSpansOf key spans = AreSpans (operations key) (length (operations key)) spans

-- c is the record of the write of this value
pub record IsWrittenBy (ops : List Op) (value c : ℕ) : Type 0 where
  pub w : Op
  pub write : IsWriteOf ops value w
  pub record_is : w.rec ≡ c

-- the value of the write with this record, or that there is none
abbrev pub FindsWritten : List Op → ℕ → Option ℕ → Type 0
FindsWritten ops rec None = (w : Op) → IsOfRecord ops rec w → IsWrite w → ⊥
FindsWritten ops rec (Some value) = IsWrittenBy ops value rec

-- a value has this mark exactly where the record of its write stands before place n
pub record HaveMark {X : Type 0} (ops : List Op) (records : List ℕ) (n : ℕ) (marks : List X) (mark : X) : Type 0 where
  pub marked : (value c : ℕ) → IsWrittenBy ops value c → StandsTo records n c → StandsAt marks value mark
  pub only : (value c : ℕ) → IsWrittenBy ops value c → StandsAt marks value mark → StandsTo records n c

-- c is the record of a write
abbrev pub IsWriteRecord : List Op → ℕ → Type 0
IsWriteRecord ops c = (w : Op) × IsOfRecord ops c w × IsWrite w

-- all members are writes, each once, and their values are marked
pub record AreMembers (ops : List Op) (stuck : List ℕ) (marks : List Bool) : Type 0 where
  pub writes : (c : ℕ) → Contains stuck c → IsWriteRecord ops c
  pub once : IsWithoutRepeats stuck
  pub marked : HaveMark ops stuck (length stuck) marks true

-- the first entry that is no write or stood before, or that there is none and these are the marks of the members, one for each value
abbrev pub FindsMembers : KeyOps → List ℕ → List Bool → Option ℕ → Type 0
FindsMembers key stuck marks (Some rec) = IsFirstWrong (IsStranger (operations key) stuck) stuck rec
FindsMembers key stuck marks None = AreMembers (operations key) stuck marks × (length marks ≡ length key.values + 1)

-- the operations of a case
abbrev pub case_ops : Case → List Op
case_ops case = operations case.key.now

-- the members of a case
abbrev pub case_stuck : Case → List ℕ
case_stuck case = case.refutation.now.stuck

-- the key of a case has no two writes of a value, and the marks and the spans are those of its values
pub record IsCase (case : Case) : Type 0 where
  pub valid : IsValidKey case.key.now
  pub matched : IsMatchedKey (case_ops case)
  pub members : AreMembers (case_ops case) (case_stuck case) case.members.now
  pub members_size : length case.members.now ≡ length case.key.now.values + 1
  pub spans : AreSpansOf case.key.now case.spans.now
  pub spans_size : length case.spans.now ≡ length case.key.now.values + 1

-- the value of the member with this record, or that there is none
abbrev pub FindsMember : Case → ℕ → Option ℕ → Type 0
FindsMember case rec None = Contains (case_stuck case) rec → ⊥
FindsMember case rec (Some value) = IsWrittenBy (case_ops case) value rec × Contains (case_stuck case) rec

-- the chain has members alone, each once, and each forces the next
pub record IsChain (case : Case) (chain : List ℕ) : Type 0 where
  pub some : 0 < length chain
  pub members : (c : ℕ) → Contains chain c → Contains (case_stuck case) c
  pub once : IsWithoutRepeats chain
  pub forced : (i c next : ℕ) → StandsAt chain i c → StandsAt chain (i + 1) next → Forces (case_ops case) case.d c next

-- the values of the chain have this mark, and `last` is the value of its last write c
pub record IsWalked (case : Case) (chain marks : List ℕ) (mark last c : ℕ) : Type 0 where
  pub last_is : StandsAt chain (length chain - 1) c
  pub value_is : IsWrittenBy (case_ops case) last c
  pub marked : HaveMark (case_ops case) chain (length chain) marks mark

-- the value at which the chain ends, or that it is none
abbrev pub FindsEnd : Case → List ℕ → List ℕ → ℕ → Option ℕ → Type 0
FindsEnd case chain marks mark None = IsChain case chain → ⊥
FindsEnd case chain marks mark (Some last) = IsChain case chain × ((c : ℕ) × IsWalked case chain marks mark last c)

-- a, of this value, precedes b, of a member whose value doesn't have this mark
pub record PrecedesUnmarked (case : Case) (marks : List ℕ) (mark value : ℕ) (a b : Op) : Type 0 where
  pub of_value : a.value ≡ value
  pub member : StandsAt case.members.now b.value true
  pub unmarked : StandsAt marks b.value mark → ⊥
  pub precedes : Precedes case.d a b

-- both are reads, of two values
pub record AreReadsApart (a b : Op) : Type 0 where
  pub first : IsRead a
  pub second : IsRead b
  pub apart : a.value ≢ b.value

-- this holds of each chain whose walk left these marks, and of its last write
abbrev pub AfterWalk : Case → List ℕ → ℕ → ℕ → (List ℕ → ℕ → Type 0) → Type 0
AfterWalk case marks mark value Holds = (chain : List ℕ) (c : ℕ) → IsWalked case chain marks mark value c → Holds chain c

-- p, of the cluster of c, precedes x, of a cluster that the chain doesn't place
abbrev pub IsUnplacedAfter : Case → List ℕ → ℕ → ℕ → ℕ → Type 0
IsUnplacedAfter case chain c p x = PrecedesUnplaced (case_ops case) case.d (case_stuck case) chain c p x

-- the operation x, which p precedes, of a cluster that the chain doesn't place, or that it is none
abbrev pub FindsUnplaced : Case → ℕ → ℕ → Option Op → List ℕ → ℕ → Type 0
FindsUnplaced case p x None chain c = IsUnplacedAfter case chain c p x → ⊥
FindsUnplaced case p x (Some b) chain c = (late : IsUnplacedAfter case chain c p x) × (late.b ≡ b)

-- whether the hard end p, u of the chain holds
abbrev pub TellsHard : Case → ℕ → ℕ → Bool → List ℕ → ℕ → Type 0
TellsHard case p u answer chain c = IsTrue answer ↔ HardHolds (case_ops case) case.d (case_stuck case) chain c p u

-- whether the soft end p, q, q2 of the chain holds
abbrev pub TellsSoft : Case → ℕ → ℕ → ℕ → Bool → List ℕ → ℕ → Type 0
TellsSoft case p q q2 answer chain c = IsTrue answer ↔ SoftHolds (case_ops case) case.d (case_stuck case) chain c p q q2

-- whether the end of the chain holds
abbrev pub TellsEnd : Case → End → Bool → List ℕ → ℕ → Type 0
TellsEnd case end answer chain c = IsTrue answer ↔ EndHolds (case_ops case) case.d (case_stuck case) chain c end

-- whether the try of a member holds
abbrev pub TellsTry : Case → ℕ → Try → Bool → Type 0
TellsTry case member attempt answer = IsTrue answer ↔ TryHolds (case_ops case) case.d (case_stuck case) member attempt

-- the member of the first try that doesn't hold, or that all do
abbrev pub FindsFailed : List Op → ℕ → Refutation → Option ℕ → Type 0
FindsFailed ops d refutation None = (t member : ℕ) (attempt : Try) → StandsAt refutation.stuck t member → StandsAt refutation.tries t attempt → TryHolds ops d refutation.stuck member attempt
FindsFailed ops d refutation (Some rec) = IsFirstWrong (IsFailedTry ops d refutation) refutation.stuck rec
