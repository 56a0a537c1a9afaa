-- The entries of `stuck`, walked to one of its places.
use Rattle.std.proofs.Common.{◌≡◌, ◌⊎◌, inl, inr, ◌<◌, ◌≤◌, ◌+◌, ℕ, Bool, true, List, length, get_or, refl, subst, arith}
use Rattle.std.specs.Prelude.{Contains}
use Rattle.std.proofs.lemmas.Option.{slice_get_within, slice_get_read}
use Rattle.stale_model.specs.declared.Op.{Op}
use Rattle.stale_model.specs.declared.KeyOps.{KeyOps}
use Rattle.stale_model.specs.Operations.{operations, IsWrite}
use Rattle.stale_model.specs.Valid.{IsValidKey}
use Rattle.stale_model.specs.Orders.{StandsAt}
use Rattle.stale_model.specs.Refutations.{IsOfRecord}
use Rattle.stale_model.proofs.Places.{contains_at, at_its_place}
use Rattle.cert_checker.specs.OrderFaults.{IsFirstWrong, StandsTo}
use Rattle.cert_checker.specs.RefutationFaults.{IsStranger}
use Rattle.cert_checker.specs.RefutationSteps.{IsWrittenBy, IsWriteRecord, HaveMark, AreMembers}
use Rattle.cert_checker.proofs.InOrder.{not_below}
use Rattle.cert_checker.proofs.Lookups.{in_slots}
use Rattle.cert_checker.proofs.Marks.{IsGoodTo}

-- what is in a list stands before its end
pub stands_in : (xs : List ℕ) (x : ℕ) → Contains xs x → StandsTo xs (length xs) x
stands_in xs x c = record { earlier = c.0; before = c.1; there = at_its_place xs x c }

-- a value that is written has a slot
pub written_in_slots : (key : KeyOps) (value c : ℕ) → IsValidKey key → IsWrittenBy (operations key) value c → value < length key.values + 1
written_in_slots key value c valid by = subst (λ v. v < length key.values + 1) by.write.value_is (in_slots key valid by.w by.write.there)

pub write_record : (ops : List Op) (value c : ℕ) → IsWrittenBy ops value c → IsWriteRecord ops c
write_record ops value c by = (by.w, record { there = by.write.there; record_is = by.record_is }, by.write.kind)

module _ (ops : List Op) (stuck : List ℕ) (n : ℕ) (good : IsGoodTo (IsWriteRecord ops) stuck n) where
  -- no entry before place n is a stranger
  pub no_stranger : (p : ℕ) → p < n → IsStranger ops stuck p → ⊥
  no_stranger p low s = go s.why
    where
      go : ((w : Op) → IsOfRecord ops s.rec w → IsWrite w → ⊥) ⊎ StandsTo stuck p s.rec → ⊥
      go (inl none) = let (w, is, write) = good.known p s.rec low s.there in none w is write
      go (inr t) = omega (arith, t.before, good.once t.earlier p s.rec (omega (arith, t.before)) low t.there s.there)

  -- the entry at place n is the first stranger
  pub first_stranger : (rec : ℕ) → StandsAt stuck n rec → ((w : Op) → IsOfRecord ops rec w → IsWrite w → ⊥) ⊎ StandsTo stuck n rec
      → IsFirstWrong (IsStranger ops stuck) stuck rec
  first_stranger rec at why = record {
    place = n;
    there = at;
    wrong = record { rec = rec; there = at; why = why };
    first = not_below (IsStranger ops stuck) n no_stranger;
  }

  -- all entries are members once the last one is
  pub members_to_end : (marks : List Bool) → length stuck ≤ n → n ≤ length stuck → HaveMark ops stuck n marks true → AreMembers ops stuck marks
  members_to_end marks past within marked = record {
    writes = λ x c. good.known c.0 x (low c.0 x (at_its_place stuck x c)) (at_its_place stuck x c);
    once = λ i j x a b. good.once i j x (low i x a) (low j x b) a b;
    marked = subst (λ (k : ℕ). HaveMark ops stuck k marks true) (let e : n ≡ length stuck = omega arith in e) marked;
  } where
    low : (i x : ℕ) → StandsAt stuck i x → i < n
    low i x at = let l = slice_get_within stuck i x at in omega arith

-- members are no strangers
pub no_strangers : (ops : List Op) (stuck : List ℕ) (marks : List Bool) → AreMembers ops stuck marks → (p : ℕ) → IsStranger ops stuck p → ⊥
no_strangers ops stuck marks are p s =
    no_stranger ops stuck (length stuck)
    (record { known = λ i x low at. are.writes x (contains_at stuck i x at); once = λ i j x li lj a b. are.once i j x a b }) p (slice_get_within stuck p s.rec s.there) s

-- the record of a marked value stood before
pub stood_by_mark : (key : KeyOps) (stuck : List ℕ) (n rec value : ℕ) (marks : List Bool) (read : Bool) → IsValidKey key → length marks ≡ length key.values + 1
    → HaveMark (operations key) stuck n marks true → IsWrittenBy (operations key) value rec → read ≡ get_or marks value read → read ≡ true → StandsTo stuck n rec
stood_by_mark key stuck n rec value marks read valid size are by is marked =
    let low = written_in_slots key value rec valid by in
    are.only value rec by (subst (StandsAt marks value) marked (slice_get_read marks (length marks) value read refl (omega arith) is))
