-- The value of a record, found by halving.
use Rattle.std.proofs.Common.{◌≡◌, ℕ, zero, suc, ◌+◌, ◌<◌, ◌≤◌, List, length, get_or, refl, sym, ◌∙◌, ap, inl, inr, arith}
use Rattle.std.specs.Prelude.{◌≢◌, ◌==◌, Option, slice_get, Contains}
use Rattle.std.specs.List.{HoldsAt, position_or_len}
use Rattle.std.specs.List.Sorted.{IsNonDecreasingBy, IsPartitionPoint}
use Rattle.std.specs.Option.{option_map_or}
use Rattle.std.specs.declared.cmp.Ordering.TheVariants.{Less, Equal, Greater}
use Rattle.std.specs.Ordering.{nat_cmp, ordering_index}
use Rattle.std.proofs.lemmas.Bool.{cases_eq, cases_lt, both_ways, ne_eqb, eq-eqb, eqb-true}
use Rattle.std.proofs.lemmas.Cmp.{nat_cmp_total}
use Rattle.std.proofs.lemmas.List.{get_or-map, length-map}
use Rattle.std.proofs.lemmas.List.Elements.{All-contains, Contains-get_or}
use Rattle.std.proofs.lemmas.List.Folds.{find_at}
use Rattle.std.proofs.lemmas.List.Sorted.{searchable_from_sorted}
use Rattle.std.proofs.lemmas.List.Sums.{position_or_len_is, fails_before_first, passes_at_first}
use Rattle.std.proofs.lemmas.Option.{slice_get-get_or, slice_get_past}
use Rattle.stale_model.specs.declared.Op.{Op}
use Rattle.stale_model.specs.declared.KeyOps.{KeyOps}
use Rattle.stale_model.specs.Operations.{operations, records_of}
use Rattle.stale_model.specs.Valid.{IsValidOp, IsValidKey}
use Rattle.stale_model.specs.NamedWrites.{RecordsDiffer, value_of_record}
use Rattle.stale_model.proofs.Comparisons.{same_nat, nat_same, not_less}
use Rattle.stale_model.proofs.Sorted.{rises_from}

-- the value of the first operation with this record stands at its place
first_value : (ops : List Op) (rec place : ℕ) (past : Op) → place ≤ length ops → ((k : ℕ) → k < place → (get_or ops k past).rec ≢ rec)
    → (place < length ops → (get_or ops place past).rec ≡ rec) → value_of_record ops rec ≡ option_map_or (λ (a : Op). a.value) (slice_get ops place) 0
first_value ops rec place past within none here =
    let passes = λ (a : Op). a.rec == rec in
    ap (λ (o : Option Op). option_map_or (λ (a : Op). a.value) o 0)
    (find_at passes ops
    ∙ ap (slice_get ops)
    (position_or_len_is passes ops place past within (λ k low. ne_eqb (get_or ops k past).rec rec (none k low)) (λ short. eq-eqb (get_or ops place past).rec rec (here short))))

-- where no two operations have one record, the value of a record is that of its operation
pub value_of_record_is : (ops : List Op) (a : Op) → RecordsDiffer ops → Contains ops a → value_of_record ops a.rec ≡ a.value
value_of_record_is ops a differ (i, within, e) =
    let passes = λ (x : Op). x.rec == a.rec in
    let place = position_or_len passes ops in
    let short : place < length ops = elim (cases_lt i place) [
      | inl before ↦ let fails = fails_before_first passes ops i a before in absurd (both_ways _ fails (rw e (eq-eqb a.rec a.rec refl)))
      | inr after ↦ omega arith
    ] in
    let first = get_or ops place a in
    let same = differ first a (Contains-get_or ops place a short) (i, within, e) (eqb-true first.rec a.rec (passes_at_first passes ops a short)) in
    ap (λ (o : Option Op). option_map_or (λ (x : Op). x.value) o 0) (find_at passes ops ∙ slice_get-get_or ops place a short) ∙ ap (λ (x : Op). x.value) same

module _ (key : KeyOps) (rec : ℕ) (valid : IsValidKey key) where
  numbered : (k : ℕ) (past : Op) → k < length key.ops → 1 ≤ (get_or key.ops k past).rec
  numbered k past within = (All-contains (IsValidOp (length key.values)) key.ops (get_or key.ops k past) valid.ops (Contains-get_or key.ops k past within)).numbered

  rises : (j k : ℕ) (past : Op) → j < k → k < length key.ops → (get_or key.ops j past).rec < (get_or key.ops k past).rec
  rises j k past low within =
      let first = get_or-map (λ (a : Op). a.rec) key.ops j past 0 (omega arith) in
      let second = get_or-map (λ (a : Op). a.rec) key.ops k past 0 within in
      let up = rises_from (records_of key.ops) valid.rising j k low (simp length-map within) in
      omega arith

  -- where a record is found, its operation has the value
  pub found_value : (place : ℕ) (past : Op) → place < length key.ops → HoldsAt (λ (a : Op). nat_cmp a.rec rec ≡ Equal) key.ops place
      → (get_or key.ops place past).value ≡ value_of_record (operations key) rec
  found_value place past within found =
      let here : (get_or key.ops place past).rec ≡ rec = same_nat (get_or key.ops place past).rec rec (found past) in
      sym
      (first_value (operations key) rec (suc place) past (omega arith) earlier (λ _. here)
      ∙ ap (λ (o : Option Op). option_map_or (λ (a : Op). a.value) o 0) (slice_get-get_or key.ops place past within)) where
        earlier : (k : ℕ) → k < suc place → (get_or (operations key) k past).rec ≢ rec
        earlier zero low e =
            let here : (get_or key.ops place past).rec ≡ rec = same_nat (get_or key.ops place past).rec rec (found past) in
            let n = numbered place past within in
            omega arith
        earlier (suc k) low e =
            let here : (get_or key.ops place past).rec ≡ rec = same_nat (get_or key.ops place past).rec rec (found past) in
            let up = rises k place past (omega arith) within in
            omega arith

  searchable : IsNonDecreasingBy (λ (a : Op). ordering_index (nat_cmp a.rec rec)) key.ops
  searchable =
      searchable_from_sorted nat_cmp_total (λ (a : Op). a.rec) key.ops rec
      (λ k d low within. not_less (get_or key.ops k d).rec (get_or key.ops (k + 1) d).rec (rises k (k + 1) d (omega arith) within))

  -- where none is found, only the initial write may have the record
  pub missing_value : (place : ℕ) (past : Op)
      → (IsNonDecreasingBy (λ (a : Op). ordering_index (nat_cmp a.rec rec)) key.ops → IsPartitionPoint (λ (a : Op). nat_cmp a.rec rec ≡ Less) (λ (a : Op). nat_cmp a.rec rec ≡ Greater) key.ops place)
      → 0 ≡ value_of_record (operations key) rec
  missing_value place past parted = elim (cases_eq rec zero) [
    | inl e ↦ sym (first_value (operations key) rec zero past (omega arith) (λ k low. absurd (omega arith)) (λ _. sym e))
    | inr some ↦
        sym
        (first_value (operations key) rec (length (operations key)) past (omega arith) (none some) (λ short. absurd (omega arith))
        ∙ ap (λ (o : Option Op). option_map_or (λ (a : Op). a.value) o 0) (slice_get_past (operations key) (length (operations key)) (omega arith)))
  ] where
    none : rec ≢ zero → (k : ℕ) → k < length (operations key) → (get_or (operations key) k past).rec ≢ rec
    none some zero low e = some (sym e)
    none some (suc k) low e =
        let (below, above) = parted searchable in
        let same = nat_same (get_or key.ops k past).rec rec e in
        elim (cases_lt k place) [
          | inl before ↦ let less = below k past (omega arith) before in cc
          | inr after ↦ let greater = above k past after (omega arith) in cc
        ]
