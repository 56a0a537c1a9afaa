-- The keys of the tests are valid and matched.
use Rattle.std.proofs.Common.{◌≡◌, ℕ, zero, suc, ◌+◌, ◌≤◌, List, [], ◌∷◌, length, refl, sym, subst, arith}
use Rattle.std.specs.Prelude.{All}
use Rattle.std.specs.List.Sorted.{IsStrictlyIncreasing}
use Rattle.stale_model.specs.declared.Op.{Op}
use Rattle.stale_model.specs.declared.Kind.{Kind}
use Rattle.stale_model.specs.declared.Kind.TheVariants.{Read, Write}
use Rattle.stale_model.specs.declared.KeyOps.{KeyOps}
use Rattle.stale_model.specs.Operations.{initial_write, operations, records_of}
use Rattle.stale_model.specs.Valid.{IsValidOp, IsValidKey}
use Rattle.stale_model.specs.Faults.{IsMatchedKey}
use Rattle.model_laws.proofs.FaultTest.{names_from_test, matched_from_names}

-- an operation of this record and value, from this tick to the next
abbrev op_at : ℕ → Kind → ℕ → ℕ → Op
op_at rec kind value start = record { rec = rec; client = 0; kind = kind; value = value; start = start; finish = start + 1; slack = 0 }

-- three writes, and a read of this value
abbrev pub ops_with : ℕ → List Op
ops_with value = op_at 1 Write 1 1 ∷ op_at 2 Write 2 3 ∷ op_at 3 Write 3 5 ∷ op_at 4 Read value 9 ∷ []

valid_op : (rec : ℕ) (kind : Kind) (value start : ℕ) → 1 ≤ rec → value ≤ 3 → 1 ≤ start → start ≤ 9 → IsValidOp 3 (op_at rec kind value start)
valid_op rec kind value start numbered le starts early = record {
  numbered = numbered;
  starts = starts;
  ordered = omega arith;
  tick = omega arith;
  ends = omega arith;
  slack = omega arith;
  value = le;
}

valid_ops : (value : ℕ) → value ≤ 3 → All (IsValidOp 3) (ops_with value)
valid_ops value le zero d l = valid_op 1 Write 1 1 (omega arith) (omega arith) (omega arith) (omega arith)
valid_ops value le (suc zero) d l = valid_op 2 Write 2 3 (omega arith) (omega arith) (omega arith) (omega arith)
valid_ops value le (suc (suc zero)) d l = valid_op 3 Write 3 5 (omega arith) (omega arith) (omega arith) (omega arith)
valid_ops value le (suc (suc (suc zero))) d l = valid_op 4 Read value 9 (omega arith) le (omega arith) (omega arith)
valid_ops value le (suc (suc (suc (suc k)))) d l = absurd (omega arith)

rising : (value : ℕ) → IsStrictlyIncreasing (records_of (ops_with value))
rising value zero l = omega arith
rising value (suc zero) l = omega arith
rising value (suc (suc zero)) l = omega arith
rising value (suc (suc (suc k))) l = absurd (omega arith)

pub test_valid : (value : ℕ) (key : KeyOps) → value ≤ 3 → length key.values ≡ 3 → key.ops ≡ ops_with value → IsValidKey key
test_valid value key le three same = record {
  ops = subst (λ n. All (IsValidOp n) key.ops) (sym three) (subst (All (IsValidOp 3)) (sym same) (valid_ops value le));
  rising = subst (λ (ops : List Op). IsStrictlyIncreasing (records_of ops)) (sym same) (rising value);
  few = subst (λ (ops : List Op). length ops ≤ 1000000) (sym same) (omega arith);
}

ops_matched : (value : ℕ) → value ≤ 3 → IsMatchedKey (initial_write ∷ ops_with value)
ops_matched zero le = matched_from_names (initial_write ∷ ops_with 0) (names_from_test (initial_write ∷ ops_with 0) (record { records = refl; written = refl; once = refl }))
ops_matched (suc zero) le = matched_from_names (initial_write ∷ ops_with 1) (names_from_test (initial_write ∷ ops_with 1) (record { records = refl; written = refl; once = refl }))
ops_matched (suc (suc zero)) le = matched_from_names (initial_write ∷ ops_with 2) (names_from_test (initial_write ∷ ops_with 2) (record { records = refl; written = refl; once = refl }))
ops_matched (suc (suc (suc zero))) le = matched_from_names (initial_write ∷ ops_with 3) (names_from_test (initial_write ∷ ops_with 3) (record { records = refl; written = refl; once = refl }))
ops_matched (suc (suc (suc (suc k)))) le = absurd (omega arith)

pub test_matched : (value : ℕ) (key : KeyOps) → value ≤ 3 → key.ops ≡ ops_with value → IsMatchedKey (operations key)
test_matched value key le same = subst (λ (ops : List Op). IsMatchedKey (initial_write ∷ ops)) (sym same) (ops_matched value le)
