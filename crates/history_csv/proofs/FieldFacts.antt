-- The fields of a record by place.
use Rattle.std.proofs.Common.{◌≡◌, ℕ, zero, suc, ◌<◌, List, [], ◌∷◌, None, length, arith}
use Rattle.csv.specs.Records.{field_at}

-- within a record there is a field
pub field-within : (fields : List (List ℕ)) (i : ℕ) → i < length fields → field_at fields i ≡ None → ⊥
unfolding field_at
field-within [] i within e = omega arith
field-within (f ∷ fs) zero within e = cc
field-within (f ∷ fs) (suc i) within e = field-within fs i (omega arith) e
