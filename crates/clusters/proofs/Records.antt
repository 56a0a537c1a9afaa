-- Operations whose records rise.
use Rattle.std.proofs.Common.{◌≡◌, ℕ, suc, ◌<◌, ◌≤◌, List, Some, length, take, get_or, refl, sym, ◌∙◌, ap, inl, inr, subst, arith}
use Rattle.std.specs.Prelude.{slice_get, Contains, All}
use Rattle.std.specs.List.{AllPairs}
use Rattle.std.proofs.lemmas.Bool.{cases_lt}
use Rattle.std.proofs.lemmas.Option.{slice_get_within, get_or_from_slice_get, slice_get-get_or}
use Rattle.std.proofs.lemmas.List.{get_or-take, length-take, get_or-map, length-map}
use Rattle.std.proofs.lemmas.List.Elements.{All-cons}
use Rattle.std.proofs.lemmas.List.Kept.{AllPairs-from_increasing, AllPairs-cons}
use Rattle.stale_model.specs.declared.Op.{Op}
use Rattle.stale_model.specs.declared.KeyOps.{KeyOps}
use Rattle.stale_model.specs.declared.Kind.TheVariants.{Read}
use Rattle.stale_model.specs.Operations.{initial_write, operations, records_of}
use Rattle.stale_model.specs.Valid.{IsValidOp, IsValidKey}
use Rattle.stale_model.specs.Faults.{IsLeastRecord}

-- each record is less than all later ones
abbrev pub IsRising : List Op → Type 0
IsRising ops = AllPairs (λ a b. a.rec < b.rec) ops

record_is : (a b : Op) → a ≡ b → a.rec ≡ b.rec
record_is a b e = ap (λ (x : Op). x.rec) e

module _ (ops : List Op) (rising : IsRising ops) where
  -- what stands at a place has a record no greater than what stands later
  not_later : (i k : ℕ) (a b : Op) → slice_get ops i ≡ Some a → k < length ops → get_or ops k b ≡ b → i ≤ k → a.rec ≤ b.rec
  not_later i k a b at within is le =
      let here = record_is _ _ (get_or_from_slice_get ops i a b at) in
      let there = record_is _ _ is in
      elim (cases_lt i k) [
        | inl less ↦ let r = rising i k b less within in omega arith
        | inr ge ↦
            let same : i ≡ k = omega arith in
            let e = record_is _ _ (ap (λ (n : ℕ). get_or ops n b) same) in
            omega arith
      ]

  -- what has a lesser record than the operation at a place stands before that place
  pub in_front : (i : ℕ) (a b : Op) → slice_get ops i ≡ Some a → Contains ops b → b.rec < a.rec → Contains (take i ops) b
  in_front i a b at (k, within, is) less =
      let l = slice_get_within ops i a at in
      elim (cases_lt k i) [
        | inl before ↦ (k, simp length-take (omega arith), get_or-take i ops k b before ∙ is)
        | inr after ↦ let le = not_later i k a b at within is after in absurd (omega arith)
      ]

  -- what stands before a place has a lesser record than the operation there
  pub front_below : (i : ℕ) (a b : Op) → slice_get ops i ≡ Some a → Contains (take i ops) b → b.rec < a.rec
  front_below i a b at (k, within, is) =
      let l = slice_get_within ops i a at in
      let n = length-take i ops in
      let before : k < i = omega arith in
      let low = record_is _ _ (sym (get_or-take i ops k b before) ∙ is) in
      let here = record_is _ _ (get_or_from_slice_get ops i a b at) in
      let r = rising k i b before l in
      omega arith

  -- the first operation with a fault is the one of the least record
  pub least_at : (Fault : Op → Type 0) (i : ℕ) (a : Op) → slice_get ops i ≡ Some a → Fault a → ((b : Op) → Contains (take i ops) b → Fault b → ⊥) → ((b : Op) → Fault b → Contains ops b) → IsLeastRecord Fault a.rec
  least_at Fault i a at fault none member = record {
    at = (a, fault, refl);
    least = λ b g. elim (cases_lt b.rec a.rec) [
      | inl less ↦ absurd (none b (in_front i a b at (member b g) less) g)
      | inr le ↦ le
    ];
  }

-- the records of a valid key rise, the initial write's before them
pub rising_operations : (key : KeyOps) → IsValidKey key → IsRising (operations key)
rising_operations key valid =
    AllPairs-cons (λ a b. a.rec < b.rec) initial_write key.ops
    (λ k d within. (valid.ops k d within).numbered)
    (λ i j d less within.
    let l : j < length (records_of key.ops) = simp length-map within in
    let r = AllPairs-from_increasing (records_of key.ops) valid.rising i j 0 less l in
    let low = get_or-map (λ (x : Op). x.rec) key.ops i d 0 (omega arith) in
    let high = get_or-map (λ (x : Op). x.rec) key.ops j d 0 within in
    omega arith)

-- each operation of a valid key has one of its values
pub values_of : (key : KeyOps) → IsValidKey key → All (λ (a : Op). a.value ≤ length key.values) (operations key)
values_of key valid =
    All-cons (λ (a : Op). a.value ≤ length key.values) initial_write key.ops (omega arith) (λ k d within. (valid.ops k d within).value)

-- what a loop over operations reads past the end
abbrev pub past_end : Op
past_end = record { rec = 0; client = 0; kind = Read; value = 0; start = 0; finish = 0; slack = 0 }

-- the operation that a loop is at
abbrev pub item : List Op → ℕ → Op
item items i = get_or items i past_end

-- a is the operation at this place of a key, and valid
pub record IsAt (key : KeyOps) (i : ℕ) (a : Op) : Type 0 where
  pub at : slice_get key.ops i ≡ Some a
  pub valid : IsValidOp (length key.values) a

-- so is the operation that a loop is at
pub here : (items : List Op) (key : KeyOps) (i : ℕ) → IsValidKey key → items ≡ key.ops → i < length items → IsAt key i (item items i)
here items key i valid same within = record {
  at = ap (λ (xs : List Op). slice_get xs i) (sym same) ∙ slice_get-get_or items i past_end within;
  valid = subst (λ (xs : List Op). IsValidOp (length key.values) (item xs i)) (sym same) (valid.ops i past_end (let n = ap length same in omega arith));
}

-- it is one among all operations of the key
pub there_is : (key : KeyOps) (i : ℕ) (a : Op) → IsAt key i a → Contains (operations key) a
there_is key i a h = (suc i, (let l = slice_get_within key.ops i a h.at in omega arith), get_or_from_slice_get key.ops i a a h.at)
