-- The ids that are left, one after the other.
use Rattle.std.proofs.Common.{◌≡◌, Bool, true, false, List, [], ◌∷◌, Some, None, refl, arith, drop}
use Rattle.std.specs.List.{list_all, slice_get}

-- where the next one fails, not all pass
pub list_all-fails : {X : Type 0} (p : X → Bool) (xs : List X) (x : X) → Some x ≡ slice_get xs 0 → p x ≡ false → list_all p xs ≡ false
list_all-fails p [] x next fails = grind arith
list_all-fails p (y ∷ ys) x next fails = grind arith

-- where the next one passes, it is up to those after it
pub list_all-passes : {X : Type 0} (p : X → Bool) (xs rest : List X) (x : X) → Some x ≡ slice_get xs 0 → rest ≡ drop 1 xs → p x ≡ true → list_all p rest ≡ list_all p xs
list_all-passes p [] rest x next others passes = grind arith
list_all-passes p (y ∷ ys) rest x next others passes = grind arith

-- where there is no next one, all passed
pub list_all-ends : {X : Type 0} (p : X → Bool) (xs : List X) → None ≡ slice_get xs 0 → list_all p xs ≡ true
list_all-ends p [] none = refl
list_all-ends p (y ∷ ys) none = grind arith
