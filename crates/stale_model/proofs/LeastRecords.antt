-- The least record with a fault.
use Rattle.std.proofs.Common.{◌≡◌, ℕ, arith}
use Rattle.stale_model.specs.declared.Op.{Op}
use Rattle.stale_model.specs.Faults.{HasNone, IsLeastRecord}

-- two least records of a fault are one
pub same_record : (Fault : Op → Type 0) (x y : ℕ) → IsLeastRecord Fault x → IsLeastRecord Fault y → x ≡ y
same_record Fault x y p q =
    let (a, f, e) = p.at in
    let (b, g, h) = q.at in
    let l = p.least b g in
    let m = q.least a f in
    omega arith

-- a fault with a least record is there
pub not_none : (Fault : Op → Type 0) (x : ℕ) → IsLeastRecord Fault x → HasNone Fault → ⊥
not_none Fault x p none = let (a, f, _) = p.at in none a f
