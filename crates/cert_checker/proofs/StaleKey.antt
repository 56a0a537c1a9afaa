-- The keys of the tests are valid and matched.
use Rattle.std.proofs.Common.{◌≡◌, ℕ, zero, suc, ◌≤◌, List, [], ◌∷◌, length, refl, sym, subst, arith}
use Rattle.std.specs.Prelude.{All}
use Rattle.std.specs.List.Sorted.{IsStrictlyIncreasing}
use Rattle.stale_model.specs.declared.Op.{Op}
use Rattle.stale_model.specs.declared.Kind.TheVariants.{Read, Write}
use Rattle.stale_model.specs.declared.KeyOps.{KeyOps}
use Rattle.stale_model.specs.Operations.{initial_write, operations, records_of}
use Rattle.stale_model.specs.Valid.{IsValidOp, IsValidKey}
use Rattle.stale_model.specs.Faults.{IsMatchedKey}
use Rattle.model_laws.proofs.FaultTest.{names_from_test, matched_from_names}

-- two writes, and a read of this value
abbrev pub ops_with : ℕ → List Op
ops_with value =
    record { rec = 1; client = 0; kind = Write; value = 1; start = 1; finish = 2; slack = 0 }
    ∷ record { rec = 2; client = 0; kind = Write; value = 2; start = 3; finish = 4; slack = 0 }
    ∷ record { rec = 3; client = 0; kind = Read; value = value; start = 7; finish = 9; slack = 0 }
    ∷ []

valid_ops : (value : ℕ) → value ≤ 2 → All (IsValidOp 2) (ops_with value)
valid_ops value le zero d l = record {
  numbered = omega arith;
  starts = omega arith;
  ordered = omega arith;
  tick = omega arith;
  ends = omega arith;
  slack = omega arith;
  value = omega arith;
}
valid_ops value le (suc zero) d l = record {
  numbered = omega arith;
  starts = omega arith;
  ordered = omega arith;
  tick = omega arith;
  ends = omega arith;
  slack = omega arith;
  value = omega arith;
}
valid_ops value le (suc (suc zero)) d l = record {
  numbered = omega arith;
  starts = omega arith;
  ordered = omega arith;
  tick = omega arith;
  ends = omega arith;
  slack = omega arith;
  value = le;
}
valid_ops value le (suc (suc (suc k))) d l = absurd (omega arith)

rising : (value : ℕ) → IsStrictlyIncreasing (records_of (ops_with value))
rising value zero l = omega arith
rising value (suc zero) l = omega arith
rising value (suc (suc k)) l = absurd (omega arith)

pub test_valid : (value : ℕ) (key : KeyOps) → value ≤ 2 → length key.values ≡ 2 → key.ops ≡ ops_with value → IsValidKey key
test_valid value key le two same = record {
  ops = subst (λ n. All (IsValidOp n) key.ops) (sym two) (subst (All (IsValidOp 2)) (sym same) (valid_ops value le));
  rising = subst (λ (ops : List Op). IsStrictlyIncreasing (records_of ops)) (sym same) (rising value);
  few = subst (λ (ops : List Op). length ops ≤ 1000000) (sym same) (omega arith);
}

pub stale_matched : (key : KeyOps) → key.ops ≡ ops_with 1 → IsMatchedKey (operations key)
stale_matched key same =
    subst (λ (ops : List Op). IsMatchedKey (initial_write ∷ ops)) (sym same)
    (matched_from_names (initial_write ∷ ops_with 1) (names_from_test (initial_write ∷ ops_with 1) (record { records = refl; written = refl; once = refl })))

pub absent_matched : (key : KeyOps) → key.ops ≡ ops_with 0 → IsMatchedKey (operations key)
absent_matched key same =
    subst (λ (ops : List Op). IsMatchedKey (initial_write ∷ ops)) (sym same)
    (matched_from_names (initial_write ∷ ops_with 0) (names_from_test (initial_write ∷ ops_with 0) (record { records = refl; written = refl; once = refl })))
