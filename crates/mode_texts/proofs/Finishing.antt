-- A stable sort by finish, of operations by rising record, is the order in which they finish.
use Rattle.std.proofs.Common.{◌≡◌, ◌⊎◌, ℕ, zero, suc, ◌+◌, ◌-◌, ◌<◌, ◌≤◌, ◌^◌, min, Bool, true, false, cond, List, [], ◌∷◌, length, get_or, refl, sym, subst, inl, inr, arith}
use Rattle.std.specs.Prelude.{All, AllPairs, Contains, not}
use Rattle.std.specs.List.{filter}
use Rattle.std.specs.List.Sorted.{IsPermutation, IsNonDecreasingBy, IsStrictlyIncreasing, IsStableByKey, ties}
use Rattle.std.specs.Ordering.{nat_cmp, is_lt}
use Rattle.std.proofs.lemmas.Bool.{cases_lt, and_from}
use Rattle.std.proofs.lemmas.List.{get_or-map, length-map, get_or_default}
use Rattle.std.proofs.lemmas.List.Kept.{AllPairs-cons, AllPairs-filter, AllPairs-from_increasing}
use Rattle.std.proofs.lemmas.List.Sorted.{All-permutation, IsPermutation-cons}
use Rattle.stale_model.specs.declared.Op.{Op}
use Rattle.stale_model.specs.declared.KeyOps.{KeyOps}
use Rattle.stale_model.specs.Operations.{records_of, latest_finish, initial_write, operations}
use Rattle.stale_model.specs.Valid.{IsValidOp, IsValidKey}
use Rattle.stale_model.proofs.Members.{kept_from}
use Rattle.mode_texts.specs.LiveTexts.{FinishesFirst, IsByFinish}

-- the finish of an operation, up to the greatest 64-bit number
abbrev pub capped_finish : Op → ℕ
capped_finish a = min (a.finish + a.slack) (2 ^ 64 - 1)

-- a stands before b by a number, and on a tie by record
abbrev StandsFirst : (Op → ℕ) → Op → Op → Type 0
StandsFirst key a b = (key a < key b) ⊎ ((key a ≡ key b) × (a.rec < b.rec))

-- whether neither of two operations is before the other by a number
abbrev ties_by : (Op → ℕ) → Op → Op → Bool
ties_by key = ties (λ x y. is_lt (nat_cmp (key x) (key y)))

never_before_itself : (n : ℕ) → not (is_lt (nat_cmp n n)) ≡ true
never_before_itself n = grind arith

ties_where_equal : (key : Op → ℕ) (a b : Op) → key a ≡ key b → ties_by key a b ≡ true
ties_where_equal key a b e = rw e (and_from (not (is_lt (nat_cmp (key b) (key b)))) (not (is_lt (nat_cmp (key b) (key b)))) (never_before_itself (key b)) (never_before_itself (key b)))

module _ {X : Type 0} (R : X → X → Type 0) where
  tail_pairs : (x : X) (xs : List X) → AllPairs R (x ∷ xs) → AllPairs R xs
  tail_pairs x xs pairs i j d low high = pairs (suc i) (suc j) d (omega arith) (omega arith)

  pub first_with_all : (x y : X) (xs : List X) → AllPairs R (x ∷ xs) → Contains xs y → R x y
  first_with_all x y xs pairs (k, l, e) = subst (λ (z : X). R x z) e (pairs zero (suc k) y (omega arith) (omega arith))

  tail_by : (b : Bool) (x : X) (xs : List X) → AllPairs R (cond b (x ∷ xs) xs) → AllPairs R xs
  tail_by true x xs pairs = tail_pairs x xs pairs
  tail_by false x xs pairs = pairs

module _ (key : Op → ℕ) where
  head_before : (a b : Op) (xs : List Op) → key a ≤ key b → Contains xs b → AllPairs (λ x y. x.rec < y.rec) (cond (ties_by key a a) (a ∷ filter (ties_by key a) xs) (filter (ties_by key a) xs))
      → StandsFirst key a b
  head_before a b xs low there pairs = elim (cases_lt (key a) (key b)) [
    | inl l ↦ inl l
    | inr m ↦
        let e : key a ≡ key b = omega arith in
        let rise : AllPairs (λ (x : Op) (y : Op). x.rec < y.rec) (a ∷ filter (ties_by key a) xs) =
        subst (λ (t : Bool). AllPairs (λ (x : Op) (y : Op). x.rec < y.rec) (cond t (a ∷ filter (ties_by key a) xs) (filter (ties_by key a) xs))) (ties_where_equal key a a refl) pairs
        in
        inr (e, first_with_all (λ (x : Op) (y : Op). x.rec < y.rec) a b (filter (ties_by key a) xs) rise (kept_from (ties_by key a) xs b there (ties_where_equal key a b e)))
  ]

  -- where a number doesn't fall, and the records of those that tie rise
  stand_first : (xs : List Op) → IsNonDecreasingBy key xs → ((x : Op) → AllPairs (λ a b. a.rec < b.rec) (filter (ties_by key x) xs)) → AllPairs (StandsFirst key) xs
  stand_first [] up rise = λ i j d low high. absurd (omega arith)
  stand_first (a ∷ xs) up rise =
      AllPairs-cons (StandsFirst key) a xs
      (λ k d l. head_before a (get_or xs k d) xs (up zero (suc k) d (omega arith) (omega arith)) (k, l, get_or_default xs k (get_or xs k d) d l) (rise a))
      (stand_first xs (λ i j d low high. up (suc i) (suc j) d (omega arith) (omega arith))
      (λ x. tail_by (λ (p : Op) (q : Op). p.rec < q.rec) (ties_by key x a) a (filter (ties_by key x) xs) (rise x)))

-- records that rise along a list rise along the operations
records_rise : (ops : List Op) → IsStrictlyIncreasing (records_of ops) → AllPairs (λ a b. a.rec < b.rec) ops
records_rise ops rising i j d low high =
    let l : i < length ops = omega arith in
    let h = AllPairs-from_increasing (records_of ops) rising i j d.rec low (simp length-map high) in
    let first = get_or-map (λ (x : Op). x.rec) ops i d d.rec l in
    let second = get_or-map (λ (x : Op). x.rec) ops j d d.rec high in
    rw (first, second) at h

capped_is : (a : Op) → latest_finish a < 2 ^ 64 → capped_finish a ≡ latest_finish a
capped_is a small = omega arith

from_capped : (a b : Op) → latest_finish a < 2 ^ 64 → latest_finish b < 2 ^ 64 → StandsFirst capped_finish a b → FinishesFirst a b
from_capped a b sa sb (inl l) = inl (omega arith)
from_capped a b sa sb (inr (e, l)) = inr (omega arith, l)

-- the stable sort
sorted_by_finish : (ops sorted : List Op) → All (λ a. latest_finish a < 2 ^ 64) ops → IsStrictlyIncreasing (records_of ops) → IsPermutation ops sorted → IsNonDecreasingBy capped_finish sorted
    → IsStableByKey capped_finish nat_cmp ops sorted → IsByFinish ops sorted
sorted_by_finish ops sorted small rising same up stable =
    let in_order = stand_first capped_finish sorted up
    (λ x. subst (λ (xs : List Op). AllPairs (λ (a : Op) (b : Op). a.rec < b.rec) xs) (sym (stable x)) (AllPairs-filter (λ (a : Op) (b : Op). a.rec < b.rec) (ties_by capped_finish x) ops (records_rise ops rising)))
    in
    let small_too = All-permutation (λ (a : Op). latest_finish a < 2 ^ 64) ops sorted same small in
    record { same = same; by_finish = λ i j d low high. from_capped (get_or sorted i d) (get_or sorted j d) (small_too i d (omega arith)) (small_too j d high) (in_order i j d low high) }

-- and that of a copy
pub sorted_copy : (ops made sorted : List Op) → made ≡ ops → All (λ a. latest_finish a < 2 ^ 64) ops → IsStrictlyIncreasing (records_of ops) → IsPermutation made sorted → IsNonDecreasingBy capped_finish sorted
    → IsStableByKey capped_finish nat_cmp made sorted → IsByFinish ops sorted
sorted_copy ops made sorted same small rising moved up stable =
    sorted_by_finish ops sorted small rising (subst (λ (xs : List Op). IsPermutation xs sorted) same moved) up
    (subst (λ (xs : List Op). IsStableByKey capped_finish nat_cmp xs sorted) same stable)

-- the finish of a valid operation is a 64-bit number
pub finishes_are_small : (key : KeyOps) → IsValidKey key → All (λ a. latest_finish a < 2 ^ 64) key.ops
finishes_are_small key valid k d l = let v = valid.ops k d l in let e = v.ends in let s = v.slack in omega arith

-- the initial write finishes first of all
pub initial_first : (key : KeyOps) (sorted : List Op) → IsValidKey key → IsByFinish key.ops sorted → IsByFinish (operations key) (initial_write ∷ sorted)
initial_first key sorted valid by = record {
  same = IsPermutation-cons initial_write key.ops sorted by.same;
  by_finish = AllPairs-cons FinishesFirst initial_write sorted
      (λ k d l.
      let v = All-permutation (IsValidOp (length key.values)) key.ops sorted by.same valid.ops k d l in
      let s = v.starts in let o = v.ordered in inl (omega arith))
      by.by_finish;
}
