-- Operations of a valid key: the one of a record, and when each starts and finishes.
use Rattle.std.proofs.Common.{◌≡◌, ◌≢◌, ℕ, ◌+◌, ◌-◌, ◌<◌, ◌≤◌, ◌^◌, max, Bool, true, false, List, length, get_or, sym, ◌∙◌, ap, inl, inr, subst, arith, add-one}
use Rattle.std.specs.Prelude.{Contains, ◌==◌, if◌then◌else◌}
use Rattle.std.specs.List.{HoldsAt}
use Rattle.std.specs.List.Sorted.{IsNonDecreasingBy, IsPartitionPoint}
use Rattle.std.specs.declared.cmp.Ordering.TheVariants.{Less, Equal, Greater}
use Rattle.std.specs.Ordering.{nat_cmp, ordering_index}
use Rattle.std.proofs.lemmas.Bool.{cases_lt}
use Rattle.std.proofs.lemmas.Cmp.{nat_cmp_total}
use Rattle.std.proofs.lemmas.List.{get_or-map, length-map}
use Rattle.std.proofs.lemmas.List.Elements.{All-contains}
use Rattle.std.proofs.lemmas.List.Sorted.{searchable_from_sorted}
use Rattle.std.proofs.lemmas.Option.{slice_get-get_or}
use Rattle.stale_model.specs.declared.Op.{Op}
use Rattle.stale_model.specs.declared.KeyOps.{KeyOps}
use Rattle.stale_model.specs.Operations.{initial_write, operations, records_of, earliest_start, latest_finish}
use Rattle.stale_model.specs.Orders.{StandsAt}
use Rattle.stale_model.specs.Refutations.{IsOfRecord}
use Rattle.stale_model.specs.Valid.{IsValidOp, IsValidKey}
use Rattle.stale_model.proofs.Comparisons.{same_nat, nat_same, not_less}
use Rattle.stale_model.proofs.Places.{contains_at, at_its_place, something_at, same_at, record_stands}
use Rattle.stale_model.proofs.Sorted.{rises_from, first_or_later}
use Rattle.model_laws.proofs.Named.{key_differs}
use Rattle.cert_checker.specs.declared.records.Placed.{Placed}
use Rattle.cert_checker.specs.Records.{IsPlaced}

module _ (key : KeyOps) (valid : IsValidKey key) where
  rises : (j k : ℕ) (past : Op) → j < k → k < length key.ops → (get_or key.ops j past).rec < (get_or key.ops k past).rec
  rises j k past low within =
      let first = get_or-map (λ (a : Op). a.rec) key.ops j past 0 (omega arith) in
      let second = get_or-map (λ (a : Op). a.rec) key.ops k past 0 within in
      let up = rises_from (records_of key.ops) valid.rising j k low (simp length-map within) in
      omega arith

  searchable : (rec : ℕ) → IsNonDecreasingBy (λ (a : Op). ordering_index (nat_cmp a.rec rec)) key.ops
  searchable rec =
      searchable_from_sorted nat_cmp_total (λ (a : Op). a.rec) key.ops rec
      (λ k d low within. not_less (get_or key.ops k d).rec (get_or key.ops (k + 1) d).rec (rises k (k + 1) d (omega arith) within))

  -- what stands at a place of the list stands one place later among all operations
  pub later : (place : ℕ) (past : Op) → place < length key.ops → StandsAt (operations key) (place + 1) (get_or key.ops place past)
  later place past within = rw (add-one) (slice_get-get_or key.ops place past within)

  -- where halving ends at an operation it is the one of the record
  pub found : (rec place : ℕ) (past : Op) → place < length key.ops → HoldsAt (λ (a : Op). nat_cmp a.rec rec ≡ Equal) key.ops place
      → IsPlaced (operations key) rec (record { place = place + 1; op = get_or key.ops place past })
  found rec place past within hit = record { there = later place past within; record_is = same_nat (get_or key.ops place past).rec rec (hit past) }

  -- where it doesn't there is none
  pub missing : (rec place : ℕ) → rec ≢ 0
      → (IsNonDecreasingBy (λ (a : Op). ordering_index (nat_cmp a.rec rec)) key.ops → IsPartitionPoint (λ (a : Op). nat_cmp a.rec rec ≡ Less) (λ (a : Op). nat_cmp a.rec rec ≡ Greater) key.ops place)
      → (a : Op) → IsOfRecord (operations key) rec a → ⊥
  missing rec place some parted a is = elim (first_or_later initial_write a key.ops is.there) [
    | inl same ↦ some (sym is.record_is ∙ ap (λ (x : Op). x.rec) (sym same))
    | inr c ↦
        let (k, within, e) = c in
        let (below, above) = parted (searchable rec) in
        let same : (get_or key.ops k a).rec ≡ rec = ap (λ (x : Op). x.rec) e ∙ is.record_is in
        let equal = nat_same (get_or key.ops k a).rec rec same in
        elim (cases_lt k place) [
          | inl before ↦ let less = below k a (omega arith) before in cc
          | inr after ↦ let greater = above k a after within in cc
        ]
  ]

  -- an operation has the one record
  pub one_of_record : (rec : ℕ) (placed : Placed) (a : Op) → IsPlaced (operations key) rec placed → IsOfRecord (operations key) rec a → a ≡ placed.op
  one_of_record rec placed a is of =
      key_differs key valid a placed.op of.there (contains_at (operations key) placed.place placed.op is.there) (of.record_is ∙ sym is.record_is)

  valid_later : (a : Op) → Contains key.ops a → IsValidOp (length key.values) a
  valid_later a c = All-contains (IsValidOp (length key.values)) key.ops a valid.ops c

  -- the latest finish of an operation is a number of the machine
  pub ends : (a : Op) → Contains (operations key) a → latest_finish a < 2 ^ 64
  ends a c = elim (first_or_later initial_write a key.ops c) [
    | inl same ↦ subst (λ (x : Op). latest_finish x < 2 ^ 64) same (omega arith)
    | inr there ↦ let v = valid_later a there in omega arith
  ]

  -- an operation starts no later than it finishes
  pub starts_first : (a : Op) → Contains (operations key) a → earliest_start a ≤ latest_finish a
  starts_first a c = elim (first_or_later initial_write a key.ops c) [
    | inl same ↦ subst (λ (x : Op). earliest_start x ≤ latest_finish x) same (omega arith)
    | inr there ↦ let v = valid_later a there in bounded (a.rec == 0) a.start a.slack a.finish v.starts v.ordered
  ] where
    bounded : (initial : Bool) (start slack finish : ℕ) → 1 ≤ start → start ≤ finish → (if initial then 0 else max 1 (start - slack)) ≤ finish + slack
    bounded true start slack finish some ordered = omega arith
    bounded false start slack finish some ordered = omega arith

  -- the value of an operation has a slot
  pub in_slots : (a : Op) → Contains (operations key) a → a.value < length key.values + 1
  in_slots a c = elim (first_or_later initial_write a key.ops c) [
    | inl same ↦ subst (λ (x : Op). x.value < length key.values + 1) same (omega arith)
    | inr there ↦ let v = valid_later a there in let le = v.value in omega arith
  ]

-- the operation that was found has the record
pub of_record : (ops : List Op) (rec : ℕ) (placed : Placed) → IsPlaced ops rec placed → IsOfRecord ops rec placed.op
of_record ops rec placed is = record { there = contains_at ops placed.place placed.op is.there; record_is = is.record_is }

-- its record stands at its place
pub record_at : (ops : List Op) (rec : ℕ) (placed : Placed) → IsPlaced ops rec placed → StandsAt (records_of ops) placed.place rec
record_at ops rec placed is = subst (StandsAt (records_of ops) placed.place) is.record_is (record_stands ops placed.place placed.op is.there)

-- where no operation has a record it is none of theirs
pub no_record : (ops : List Op) (rec : ℕ) → ((a : Op) → IsOfRecord ops rec a → ⊥) → Contains (records_of ops) rec → ⊥
no_record ops rec none c =
    let stands = at_its_place (records_of ops) rec c in
    let (a, there) = something_at ops c.0 (simp length-map at c.1) in
    none a (record { there = contains_at ops c.0 a there; record_is = same_at (records_of ops) c.0 a.rec rec (record_stands ops c.0 a there) stands })
