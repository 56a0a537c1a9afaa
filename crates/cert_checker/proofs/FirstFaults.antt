-- The first operation of a valid key that has a fault has the least record.
use Rattle.std.proofs.Common.{◌≡◌, ℕ, ◌+◌, ◌<◌, ◌≤◌, List, length, get_or, refl, ap, inl, inr, subst, arith, add-one}
use Rattle.std.specs.Prelude.{Contains}
use Rattle.std.proofs.lemmas.Bool.{cases_lt}
use Rattle.std.proofs.lemmas.Option.{slice_get-get_or}
use Rattle.stale_model.specs.declared.Op.{Op}
use Rattle.stale_model.specs.declared.KeyOps.{KeyOps}
use Rattle.stale_model.specs.Operations.{IsRead, IsWrite, operations}
use Rattle.stale_model.specs.Orders.{StandsAt}
use Rattle.stale_model.specs.Valid.{IsValidKey}
use Rattle.stale_model.specs.Faults.{IsReadIn, IsLeastRecord, HasNone}
use Rattle.stale_model.proofs.Places.{contains_at, at_its_place, same_at, record_stands}
use Rattle.cert_checker.proofs.InOrder.{no_op}
use Rattle.cert_checker.proofs.Marks.{key_rises}
use Rattle.cert_checker.proofs.Starts.{below_or_at}

-- no operation before place n has the fault
abbrev pub IsFreeTo : (Op → Type 0) → List Op → ℕ → Type 0
IsFreeTo Fault ops n = (p : ℕ) (b : Op) → p < n → StandsAt ops p b → Fault b → ⊥

-- only operations have the fault
abbrev pub IsOfOps : (Op → Type 0) → List Op → Type 0
IsOfOps Fault ops = (b : Op) → Fault b → Contains ops b

-- only reads have the fault
abbrev pub IsOfReads : (Op → Type 0) → List Op → Type 0
IsOfReads Fault ops = (b : Op) → Fault b → IsReadIn ops b

-- a read does not write
pub read_writes_not : (a : Op) → IsRead a → IsWrite a → ⊥
read_writes_not a read write = cc

-- one operation more that doesn't have it
free_more : (Fault : Op → Type 0) (ops : List Op) (n : ℕ) (a : Op) → IsFreeTo Fault ops n → StandsAt ops n a → (Fault a → ⊥) → IsFreeTo Fault ops (n + 1)
free_more Fault ops n a free at none p b low stands f = elim (below_or_at p n low) [
  | inl less ↦ free p b less stands f
  | inr e ↦
      let same : b ≡ a = same_at ops n b a (subst (λ q. StandsAt ops q b) e stands) at in
      none (subst Fault same f)
]

-- the records of operations rise with their places
pub record_below : (key : KeyOps) → IsValidKey key → (i j : ℕ) (a b : Op) → i < j → StandsAt (operations key) i a → StandsAt (operations key) j b → a.rec < b.rec
record_below key valid i j a b low ati atj =
    key_rises key valid i j a.rec b.rec low (record_stands (operations key) i a ati) (record_stands (operations key) j b atj)

-- an operation of a lesser record stands before
pub stands_below : (key : KeyOps) → IsValidKey key → (i j : ℕ) (a b : Op) → a.rec < b.rec → StandsAt (operations key) i a → StandsAt (operations key) j b → i < j
stands_below key valid i j a b less ati atj = elim (cases_lt i j) [
  | inl low ↦ low
  | inr high ↦ elim (cases_lt j i) [
    | inl low ↦ let r = record_below key valid j i b a low atj ati in absurd (omega arith)
    | inr back ↦
        let e : i ≡ j = omega arith in
        let same : a ≡ b = same_at (operations key) j a b (subst (λ q. StandsAt (operations key) q a) e ati) atj in
        let r = ap (λ (x : Op). x.rec) same in
        absurd (omega arith)
  ]
]

-- the first operation with a fault has the least record
pub first_is_least : (key : KeyOps) → IsValidKey key → (Fault : Op → Type 0) → IsOfOps Fault (operations key) → (n : ℕ) (a : Op) → IsFreeTo Fault (operations key) n
    → StandsAt (operations key) n a → Fault a → IsLeastRecord Fault a.rec
first_is_least key valid Fault member n a free at fault = record {
  at = (a, fault, refl);
  least = λ b f.
      let there = member b f in
      let stands = at_its_place (operations key) b there in
      elim (cases_lt b.rec a.rec) [
        | inl less ↦ absurd (free there.0 b (stands_below key valid there.0 n b a less stands at) stands f)
        | inr le ↦ le
      ];
}

-- the operation that a loop over those of a key is at
module _ (key : KeyOps) (items : List Op) (i : ℕ) (same : items ≡ key.ops) where
  -- it stands one place later among all operations
  pub stands_here : i < length items → StandsAt (operations key) (i + 1) (get_or items i no_op)
  stands_here within = rw add-one (subst (λ (xs : List Op). StandsAt xs i (get_or items i no_op)) same (slice_get-get_or items i no_op within))

  pub known_here : i < length items → Contains (operations key) (get_or items i no_op)
  known_here within = contains_at (operations key) (i + 1) (get_or items i no_op) (stands_here within)

  module _ (Fault : Op → Type 0) (reads : IsOfReads Fault (operations key)) (free : IsFreeTo Fault (operations key) (i + 1)) where
    pub least_here : i < length items → IsValidKey key → Fault (get_or items i no_op) → IsLeastRecord Fault (get_or items i no_op).rec
    least_here within valid f =
        first_is_least key valid Fault (λ b g. (reads b g).there) (i + 1) (get_or items i no_op) free (stands_here within) f

    pub free_next : i < length items → (Fault (get_or items i no_op) → ⊥) → IsFreeTo Fault (operations key) (i + 1 + 1)
    free_next within none = free_more Fault (operations key) (i + 1) (get_or items i no_op) free (stands_here within) none

    -- a write has no fault of reads
    pub free_write : i < length items → IsWrite (get_or items i no_op) → IsFreeTo Fault (operations key) (i + 1 + 1)
    free_write within kind = free_next within (λ f. read_writes_not (get_or items i no_op) (reads (get_or items i no_op) f).kind kind)

    pub free_all : length items ≤ i → HasNone Fault
    free_all past b f =
        let there = (reads b f).there in
        let long = ap length same in
        free there.0 b (let within = there.1 in omega arith) (at_its_place (operations key) b there) f
